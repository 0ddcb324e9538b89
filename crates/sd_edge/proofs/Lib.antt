pub mod GuestLemmas
pub mod KeptLemmas
pub mod NewlineLemmas
