pub mod Short
pub mod OrderLemmas
pub mod SentLemmas
pub mod WireLemmas
pub mod TotalLemmas
