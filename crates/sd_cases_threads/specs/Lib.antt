pub mod Puts
pub mod Submitted
