pub mod Areas
pub mod Crashes
pub mod Notes
pub mod Mediums
pub mod Calls
pub mod Plans
pub mod Streams
pub mod Volumes
