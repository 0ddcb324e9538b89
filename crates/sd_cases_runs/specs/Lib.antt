pub mod Ready
pub mod Passing
