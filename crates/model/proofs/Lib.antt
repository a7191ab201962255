mod Examples
pub mod Parsed
pub mod Values
pub mod Rows
pub mod Pieces
pub mod Stands
pub mod Placed
pub mod Laid
pub mod ElementRows
pub mod BodyRows
pub mod Parts
pub mod In
pub mod Rooms
