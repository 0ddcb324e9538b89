pub mod Records
pub mod Shards
