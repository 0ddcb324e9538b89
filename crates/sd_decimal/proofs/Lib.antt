pub mod Decimals
pub mod Digits
pub mod Exponents
pub mod Kept
pub mod Mantissas
pub mod NumberTexts
pub mod Powers
pub mod Sides
