pub mod Short
pub mod CountedLemmas
