pub mod Linked
pub mod Refused
pub mod Steps
pub mod Stops
