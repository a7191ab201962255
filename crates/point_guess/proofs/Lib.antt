pub mod Stepping
pub mod Weights
pub mod Levels
