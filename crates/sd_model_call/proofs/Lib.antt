pub mod Short
pub mod DrillEnds
pub mod WordsLemmas
