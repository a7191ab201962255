pub mod Files
pub mod Joined
pub mod Accepted
pub mod Polylines
