pub mod Live
pub mod Laws
pub mod Lookers
pub mod Told
