pub mod BlockLaws
pub mod Zeros
pub mod Examples
