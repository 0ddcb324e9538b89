pub mod Routes
pub mod Relays
