pub mod Logs
pub mod News
pub mod Moves
pub mod Removals
pub mod Devices
