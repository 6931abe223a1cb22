pub mod Gates
pub mod Ways
