pub mod Lines
pub mod Diagnosis
