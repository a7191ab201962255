pub mod Diagnosed
pub mod Sorted
