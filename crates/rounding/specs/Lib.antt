pub mod Round
pub mod Range
pub mod Fractions
