pub mod Commands
pub mod Doing
pub mod Answering
pub mod PortKeeper
