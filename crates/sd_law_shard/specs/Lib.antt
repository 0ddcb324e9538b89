pub mod Amounts
pub mod Sums
pub mod Reported
