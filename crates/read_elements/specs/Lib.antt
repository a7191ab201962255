pub mod Corners
pub mod Elements
pub mod Bodies
