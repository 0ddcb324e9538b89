mod AbsentLemmas
mod CommandLemmas
mod DumpLemmas
mod RoomLemmas
mod SwapLemmas
pub mod TableLemmas
