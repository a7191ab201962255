pub mod Rooms
pub mod Line
pub mod Claims
