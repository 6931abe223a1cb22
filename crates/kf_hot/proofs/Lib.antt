pub mod Covered
pub mod Gating
