pub mod Counting
pub mod FlatBelow
pub mod Marking
pub mod Numbering
