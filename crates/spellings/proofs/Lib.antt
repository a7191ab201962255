pub mod Compare
pub mod Walk
pub mod Rows
pub mod Spellings
pub mod Write
