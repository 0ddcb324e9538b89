pub mod Repeat
pub mod Sent
