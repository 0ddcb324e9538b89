pub mod GroupCode
pub mod Inside
pub mod Played
pub mod Shards
pub mod Standings
