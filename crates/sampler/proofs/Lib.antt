pub mod Ranges
pub mod Obeyed
pub mod Refusals
pub mod Entries
pub mod Surfaces
pub mod Demanded
pub mod OnSurfaces
pub mod Runners
