pub mod Cut
pub mod Walk
pub mod Places
pub mod Loops
pub mod Found
pub mod Scans
pub mod LineByLine
pub mod Tokens
pub mod ReadBack
mod Examples
