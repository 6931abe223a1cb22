pub mod Tags
pub mod Faults
pub mod Answers
pub mod Texts
pub mod Plugs
pub mod Stops
pub mod Removals
