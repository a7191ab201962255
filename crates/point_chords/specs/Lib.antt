pub mod Chords
pub mod Promises
