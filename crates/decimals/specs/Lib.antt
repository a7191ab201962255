pub mod Number
pub mod Straight
