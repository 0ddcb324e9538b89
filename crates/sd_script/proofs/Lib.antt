pub mod Cuts
pub mod HeadLemmas
pub mod AheadLemmas
pub mod PrefixLemmas
pub mod ReaderLemmas
pub mod NextLemmas
pub mod NumberLemmas
pub mod TextLemmas
