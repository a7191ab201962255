pub mod Tally
pub mod Advice
pub mod Inner
