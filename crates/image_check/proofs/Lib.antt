pub mod Stages
pub mod Masks
pub mod Tests
pub mod Counts
