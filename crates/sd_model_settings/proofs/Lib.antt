pub mod Short
pub mod OnLiterals
