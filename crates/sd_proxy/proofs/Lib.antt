pub mod WaitingLemmas
pub mod ForwardLemmas
pub mod RelayLemmas
mod CutLemmas
mod LookedLemmas
mod StreamLemmas
mod LineLemmas
