pub mod Logs
pub mod Moves
pub mod Reported
pub mod Once
