pub mod Rows
pub mod TidyFrom
