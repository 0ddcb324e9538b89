pub mod Answers
pub mod Room
pub mod Reading
pub mod Sessions
pub mod Serving
