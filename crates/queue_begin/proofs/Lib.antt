pub mod Bounds
pub mod Choosing
