pub mod SlotLemmas
pub mod Clearing
pub mod Writing
pub mod Making
