pub mod Digits
pub mod Pages
pub mod Lines
pub mod Emitted
pub mod EmittedHex
pub mod Zeros
pub mod Hexes
