pub mod Tails
pub mod Flushing
pub mod Batches
pub mod Attaching
pub mod Lookups
