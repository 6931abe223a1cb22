pub mod Gathered
pub mod Names
