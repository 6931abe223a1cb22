pub mod Children
pub mod Next
pub mod Changes
pub mod Directories
pub mod Live
