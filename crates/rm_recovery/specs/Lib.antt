pub mod Losers
pub mod Restarting
pub mod Redone
pub mod Undone
pub mod Opening
pub mod Outcomes
pub mod Laws
