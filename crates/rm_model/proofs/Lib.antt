pub mod Slots
pub mod CategoryExamples
pub mod FileLaws
pub mod Sums
