pub mod Handed
pub mod Meeting
