pub mod Addresses
pub mod Guests
pub mod Lines
pub mod LogLines
pub mod Seconds
pub mod Telling
pub mod Ticks
pub mod Times
