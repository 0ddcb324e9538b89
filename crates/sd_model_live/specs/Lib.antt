pub mod Proxy
pub mod Port
