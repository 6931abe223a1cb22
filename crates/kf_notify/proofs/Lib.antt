pub mod Allowed
pub mod Runs
pub mod Greater
pub mod Keeps
pub mod OneEnds
pub mod Histories
pub mod Next
pub mod Waits
