pub mod Redo
pub mod Entries
