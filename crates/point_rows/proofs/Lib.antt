pub mod Places
pub mod Searched
pub mod Grids
