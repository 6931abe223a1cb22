pub mod Files
pub mod Binary
pub mod Held
