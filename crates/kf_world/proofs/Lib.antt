pub mod CallerCounts
pub mod CountLists
pub mod Kept
pub mod Events
pub mod WorldVisits
pub mod OneItem
