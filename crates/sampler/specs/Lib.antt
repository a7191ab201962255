pub mod Points
pub mod Answers
pub mod Sampling
pub mod Inner
pub mod Demand3
