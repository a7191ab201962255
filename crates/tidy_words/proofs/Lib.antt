pub mod Emissions
pub mod Naming
pub mod NamesLeft
