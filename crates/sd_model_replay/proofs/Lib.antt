pub mod Short
pub mod AccountingLemmas
pub mod HistoryLemmas
pub mod LineLemmas
pub mod MadeLemmas
pub mod Numbers
pub mod ReplayLemmas
