pub mod Call
pub mod Drill
pub mod Opening
pub mod Server
pub mod Proxy
