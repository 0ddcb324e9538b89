pub mod Digits
pub mod Exponent
pub mod NumberFault
