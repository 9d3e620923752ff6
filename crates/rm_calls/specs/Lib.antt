pub mod Answers
pub mod Calls
pub mod Replay
pub mod Honest
pub mod Steps
