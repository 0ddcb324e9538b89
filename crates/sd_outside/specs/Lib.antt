pub mod Answers
pub mod Backends
pub mod CountSink
pub mod Intervals
pub mod Places
pub mod Turns
