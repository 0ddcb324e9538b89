pub mod Hash
pub mod Heads
pub mod Index
pub mod Ranking
pub mod Rows
pub mod RowsInside
pub mod RowMap
