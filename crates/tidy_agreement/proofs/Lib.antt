pub mod Streams
pub mod Elements
pub mod TidyFrom
