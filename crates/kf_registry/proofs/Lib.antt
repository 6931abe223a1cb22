pub mod Backs
pub mod Refusals
