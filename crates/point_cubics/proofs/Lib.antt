pub mod Segments
pub mod Answers
pub mod Stepped
