pub mod Plain
pub mod InPlace
