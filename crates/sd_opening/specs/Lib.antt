pub mod Answers
pub mod Causes
pub mod Status
pub mod Words
pub mod World
