pub mod Given
pub mod Locks
pub mod Reads
pub mod Ready
