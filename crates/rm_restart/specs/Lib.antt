pub mod Plain
pub mod Sound
pub mod Opening
pub mod Outcomes
pub mod Replaying
pub mod Refusals
pub mod Laws
