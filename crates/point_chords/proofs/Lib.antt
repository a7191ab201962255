pub mod Middle
mod Sizes
mod Examples
