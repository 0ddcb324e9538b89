pub mod ViewLists
pub mod QueueSteps
pub mod FlagSteps
pub mod OutBufLemmas
pub mod WorkedLemmas
pub mod ListLemmas
pub mod ContentLemmas
