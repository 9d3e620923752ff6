pub mod Runs
pub mod RunExamples
pub mod Pages
