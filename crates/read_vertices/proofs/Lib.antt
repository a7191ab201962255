pub mod Walking
pub mod Closed
pub mod Rows
pub mod Taking
pub mod Parse
pub mod Examples
