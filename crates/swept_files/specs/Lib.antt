pub mod Promises
pub mod Samples
pub mod Files
pub mod Accepted
