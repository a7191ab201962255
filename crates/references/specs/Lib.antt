pub mod Reference
pub mod Corner
pub mod Written
pub mod Fits
pub mod Answers
pub mod Straight
