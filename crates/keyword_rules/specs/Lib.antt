pub mod Asked
pub mod Ranges
