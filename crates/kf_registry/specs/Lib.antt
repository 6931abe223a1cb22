pub mod Hot
pub mod Names
pub mod Receipts
pub mod Refusals
