pub mod Cutting
pub mod Kinds
pub mod KindViews
pub mod Pieces
pub mod Turns
pub mod Seats
