pub mod LineLemmas
pub mod LookLemmas
pub mod OwnLemmas
pub mod PostLemmas
pub mod SumLemmas
pub mod OrderLemmas
