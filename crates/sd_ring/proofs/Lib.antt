pub mod Ascending
pub mod Bits
pub mod CacheLemmas
pub mod OwnerFacts
pub mod Permuted
