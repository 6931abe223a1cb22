pub mod Rule
pub mod Steps
pub mod Board
pub mod States
pub mod Laws
pub mod Runs
