pub mod Appending
pub mod RecordsOfActs
pub mod Sizes
pub mod RowIds
pub mod Readings
pub mod Damages
pub mod Prefixes
pub mod PendingSteps
pub mod PendingInduction
pub mod PendingLaws
pub mod LeadsBack
pub mod ChainSteps
pub mod Chains
pub mod Holding
pub mod Finished
pub mod Elsewhere
pub mod NeedLaws
pub mod NetLists
pub mod ChangeLsns
pub mod NetLaws
pub mod WinnerLaws
pub mod NeedSums
pub mod Following
pub mod NeedChains
pub mod RoomLaws
pub mod UndoTheorem
pub mod Rollbacks
pub mod AllPending
pub mod UndoSteps
pub mod FallingLsns
pub mod Losers
pub mod Restarts
pub mod UndoBytes
mod ExampleLogs
mod NeedExamples
mod RoomExamples
mod SlotExamples
mod UndoExamples
