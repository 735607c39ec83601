pub mod Stored
pub mod Runs
