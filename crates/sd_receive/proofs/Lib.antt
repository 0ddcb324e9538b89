pub mod FiledLemmas
pub mod CalledLemmas
pub mod CountedLemmas
pub mod ReadLemmas
pub mod LineLemmas
pub mod StreamLemmas
pub mod DoorLemmas
