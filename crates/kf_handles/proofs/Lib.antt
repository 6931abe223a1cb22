pub mod Boxes
pub mod BySlot
pub mod Ends
pub mod Listed
pub mod Looks
pub mod Refusals
