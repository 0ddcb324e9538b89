pub mod AddressLemmas
pub mod BackendLemmas
pub mod ReadLemmas
pub mod WriteLemmas
pub mod NothingWritten
