pub mod Chunks
pub mod Entries
pub mod Pairs
pub mod Places
