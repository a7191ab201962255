pub mod Bounds
pub mod Opened
pub mod Steps
pub mod Vertices
pub mod Given
pub mod Stepped
