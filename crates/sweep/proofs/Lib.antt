pub mod Whole
pub mod References
pub mod Fronts
pub mod Answering
