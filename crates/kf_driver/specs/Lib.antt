pub mod Buffers
pub mod Opening
pub mod Places
pub mod Ready
pub mod Tables
