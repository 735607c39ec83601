pub mod Tags
pub mod Steps
