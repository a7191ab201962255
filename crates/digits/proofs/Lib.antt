pub mod Rows
pub mod Fronts
pub mod Lengths
pub mod Runs
pub mod Saids
pub mod Wholes
