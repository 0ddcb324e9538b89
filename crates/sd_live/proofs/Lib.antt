pub mod AllNodes
pub mod Steps
pub mod Closing
pub mod LookLemmas
