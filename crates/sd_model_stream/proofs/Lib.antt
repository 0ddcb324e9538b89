pub mod Short
pub mod StreamLemmas
