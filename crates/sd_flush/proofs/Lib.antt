pub mod DeliveryLemmas
pub mod HomeLemmas
pub mod OfferLemmas
pub mod RoundLemmas
pub mod SwapLemmas
