pub mod Rounding
pub mod Decimals
pub mod Numbers
pub mod Signs
pub mod Ahead
