pub mod Receiving
pub mod Posts
pub mod Streaming
pub mod LineReading
pub mod Received
pub mod Streamed
