pub mod Makings
pub mod Openings
pub mod Places
pub mod Told
pub mod Locked
