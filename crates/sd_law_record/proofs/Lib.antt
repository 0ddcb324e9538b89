pub mod AccountLemmas
pub mod AccountingLemmas
pub mod DocumentedLemmas
pub mod SendLemmas
