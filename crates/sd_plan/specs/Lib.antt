pub mod Values
pub mod Entries
pub mod Names
pub mod Calculated
pub mod Plan
