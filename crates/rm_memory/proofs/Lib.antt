pub mod CrashLaws
pub mod NoteLemmas
pub mod ReplayLemmas
pub mod CallLemmas
pub mod StepLaws
