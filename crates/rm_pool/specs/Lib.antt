pub mod Journals
pub mod Frames
pub mod Stores
