pub mod Sends
pub mod Tell
