pub mod Passes
pub mod Laws
pub mod Gated
