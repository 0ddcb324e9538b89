mod AlongLemmas
pub mod DoorLemmas
mod ServeLemmas
mod SessionLemmas
mod TurnLemmas
