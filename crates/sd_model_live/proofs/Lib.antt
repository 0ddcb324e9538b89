pub mod Short
pub mod Bits
pub mod QuestionLemmas
