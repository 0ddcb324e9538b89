pub mod BinLemmas
pub mod NumberLemmas
pub mod RunLemmas
