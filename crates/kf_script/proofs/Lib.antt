pub mod Digits
pub mod Running
pub mod Places
pub mod Spelled
pub mod Kept
