pub mod Steps
pub mod Refused
