pub mod Receiving
pub mod Rounds
pub mod Sessions
