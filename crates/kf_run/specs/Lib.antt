pub mod Programs
pub mod Asking
