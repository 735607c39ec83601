pub mod Area
pub mod Waiting
