pub mod DoorLemmas
pub mod LineLemmas
pub mod RoundLemmas
