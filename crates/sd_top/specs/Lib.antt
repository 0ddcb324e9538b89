pub mod Replaying
pub mod Serving
pub mod Relaying
