pub mod HistoryLemmas
pub mod NumberLemmas
pub mod OverLemmas
