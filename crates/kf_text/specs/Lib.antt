pub mod Texts
pub mod Readings
