pub mod Views
pub mod Sending
pub mod Waiting
pub mod Forwarding
pub mod Proxying
pub mod Looking
pub mod Streaming
