pub mod Cuts
pub mod Pieces
pub mod Telling
pub mod Turning
