pub mod Stored
pub mod Moving
pub mod Renumbering
pub mod Sweeping
