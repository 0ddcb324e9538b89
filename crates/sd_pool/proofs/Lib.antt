pub mod AlongLemmas
mod CallLemmas
mod CloseLemmas
pub mod DealLemmas
mod FirstLemmas
pub mod JoinLemmas
pub mod OwnLemmas
pub mod RunLemmas
mod SeatLemmas
mod StandsLemmas
mod ReportedLemmas
mod WhoLemmas
pub mod ActsLemmas
