pub mod Agreement
pub mod Outcomes
