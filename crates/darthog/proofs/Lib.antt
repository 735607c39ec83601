pub mod Texts
pub mod Printed
