pub mod Crash
pub mod Logs
pub mod RecordSteps
pub mod BatchSteps
pub mod AttachSteps
pub mod LookupSteps
