pub mod Seats
pub mod Standing
pub mod Listing
