pub mod Tags
pub mod Layout
pub mod Lists
pub mod Numbers
pub mod Pieces
pub mod Image
pub mod OneToOne
pub mod Puts
