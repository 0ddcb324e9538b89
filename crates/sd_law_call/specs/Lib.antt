pub mod Behind
pub mod Completeness
pub mod ServerCompleteness
