pub mod Rising
pub mod Formats
