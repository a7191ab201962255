pub mod Tests
pub mod Products
pub mod Basis
pub mod Trail
pub mod Multiplicities
pub mod Walks
