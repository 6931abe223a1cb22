pub mod Lines
pub mod Requests
pub mod ReplyText
pub mod Answers
pub mod Progress
pub mod SoFar
