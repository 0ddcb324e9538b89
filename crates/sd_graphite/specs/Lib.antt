pub mod SecondInside
pub mod Texts
