pub mod Places
pub mod Finding
pub mod Controls
pub mod Coordinates
