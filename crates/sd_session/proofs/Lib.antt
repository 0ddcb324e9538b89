mod FoundLemmas
mod TogetherLemmas
mod ExecutionLemmas
mod LineLemmas
mod DoneLemmas
mod VisitLemmas
pub mod CommandLemmas
