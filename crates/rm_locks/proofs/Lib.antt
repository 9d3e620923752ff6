pub mod Order
pub mod Granted
pub mod Searches
pub mod Blockers
