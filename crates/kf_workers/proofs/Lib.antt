pub mod Weaker
pub mod Written
