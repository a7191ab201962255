mod Halves
pub mod Granted
pub mod Every
pub mod Demanded
mod Pieces
