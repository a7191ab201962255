pub mod Pieces
pub mod References
pub mod Corners
pub mod Patterns
pub mod Ahead
pub mod Numerals
pub mod NumbersBack
pub mod WholesBack
pub mod CornersBack
pub mod Tokens
mod Examples
