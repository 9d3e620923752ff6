pub mod Journals
pub mod FrameLaws
