pub mod EntryPoints
pub mod Demand1
pub mod Demand2
pub mod Demand3
pub mod Kept
pub mod Cheats
pub mod Polylines
