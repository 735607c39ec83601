pub mod Areas
pub mod Called
pub mod Histories
pub mod Images
pub mod Printings
pub mod States
pub mod Waited
