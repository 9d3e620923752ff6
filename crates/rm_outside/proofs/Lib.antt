pub mod StreamLemmas
pub mod FaultLemmas
pub mod ShowsLemmas
pub mod CallLemmas
pub mod HistoryLaws
