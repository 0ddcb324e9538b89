pub mod Short
pub mod RouteLemmas
pub mod BatchLemmas
pub mod SendLemmas
pub mod TotalLemmas
