pub mod BackendLemmas
pub mod DeliveryLemmas
pub mod LineWrites
pub mod OutsideLemmas
pub mod TurnLemmas
pub mod WriteLemmas
pub mod Short
