pub mod Bytes
pub mod Lines
pub mod Words
pub mod Rest
pub mod Written
pub mod Tokens
