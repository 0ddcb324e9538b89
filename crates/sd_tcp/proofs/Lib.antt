pub mod LineLemmas
pub mod CutLemmas
pub mod PartLemmas
pub mod SplitLemmas
