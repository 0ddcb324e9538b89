pub mod HistoryLemmas
pub mod Sets
pub mod Asking
pub mod Run
