pub mod PlaceLemmas
pub mod ListLemmas
pub mod RunLemmas
pub mod SumLemmas
pub mod ReportedLemmas
pub mod WaitingLemmas
pub mod FilingLemmas
