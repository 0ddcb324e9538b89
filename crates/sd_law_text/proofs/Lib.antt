pub mod BeforeLemmas
pub mod CutLemmas
pub mod GoodLemmas
pub mod GrammarLemmas
pub mod PartLemmas
pub mod PieceCounts
pub mod PieceLemmas
