pub mod Timer
pub mod Seen
