pub mod HeadLemmas
pub mod IndexLemmas
pub mod MapLemmas
pub mod RankingLemmas
pub mod RowsLemmas
