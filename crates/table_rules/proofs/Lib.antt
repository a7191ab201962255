pub mod AllNumbers
pub mod OneElement
pub mod Pass
pub mod Lent
