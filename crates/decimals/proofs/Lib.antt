pub mod Mantissas
pub mod Shifts
pub mod Points
pub mod Signed
pub mod Exponents
pub mod Scaled
pub mod Ahead
