pub mod Bounded
pub mod WorldGuard
pub mod Hints
pub mod Counts
