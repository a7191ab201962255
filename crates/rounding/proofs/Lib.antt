pub mod IntLaws
pub mod Ring
pub mod Order
pub mod Rounding
pub mod Bits
pub mod FracLaws
