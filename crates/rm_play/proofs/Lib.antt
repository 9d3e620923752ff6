pub mod Inside
pub mod Finding
pub mod Chosen
pub mod Uniqueness
pub mod Lengths
pub mod Doing
pub mod Following
mod ExampleRuns
