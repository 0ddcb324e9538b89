pub mod Batch
pub mod Places
pub mod Inside
pub mod Runs
pub mod Filing
