pub mod Said
pub mod Doomed
pub mod Frames
pub mod Single
pub mod Writers
pub mod Alike
pub mod Alone
pub mod Grown
