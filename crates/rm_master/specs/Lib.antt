pub mod Fields
pub mod Faults
pub mod Steps
pub mod Slots
pub mod Fresh
