pub mod PrefixLemmas
pub mod PrefixLaws
pub mod RedoLaws
pub mod Gates
pub mod CheckpointLaws
pub mod SoundLaws
pub mod FreshLaws
pub mod RedoneLaws
pub mod GateLaws
pub mod PastLaws
mod ExampleLog
mod Examples
mod WholeExamples
