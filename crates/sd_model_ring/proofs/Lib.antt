pub mod Short
pub mod Least
pub mod Owners
pub mod Points
