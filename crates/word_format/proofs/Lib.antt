pub mod Stores
pub mod Digits
pub mod Numbers
pub mod Corners
