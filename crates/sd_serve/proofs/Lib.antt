mod CrewLemmas
mod LineLemmas
mod PostLemmas
mod RoomLemmas
mod DeskLemmas
mod ServeLemmas
mod ThroughLemmas
pub mod CallerLemmas
pub mod CountedLemmas
pub mod RunLemmas
