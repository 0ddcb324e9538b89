pub mod WordPlaces
pub mod TotalsLines
pub mod WordLemmas
pub mod TakeLemmas
