pub mod Answers
pub mod Values
pub mod Groups
pub mod Reported
pub mod ConfigText
