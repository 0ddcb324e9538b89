pub mod Replay
pub mod Script
pub mod MadeScript
pub mod AccountingTheorem
