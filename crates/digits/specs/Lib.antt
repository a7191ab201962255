pub mod Said
pub mod Digits
pub mod Degree
pub mod Answers
pub mod Straight
