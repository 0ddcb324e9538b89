pub mod ChainLemmas
pub mod CountLemmas
pub mod ForgetLemmas
pub mod ForgottenLemmas
pub mod FreshLemmas
pub mod LeftLemmas
mod LinkLemmas
pub mod ListingLemmas
pub mod MemberLemmas
pub mod OrderLemmas
pub mod OwnLemmas
pub mod PlaceLemmas
mod PlacedLemmas
pub mod SampleLemmas
pub mod SinceLemmas
pub mod SumLemmas
pub mod TableLemmas
pub mod ReportedLemmas
pub mod TurnLemmas
pub mod ValueLemmas
