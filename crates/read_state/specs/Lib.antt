pub mod State
pub mod Numbers
pub mod Image
pub mod Changed
pub mod Bounds
