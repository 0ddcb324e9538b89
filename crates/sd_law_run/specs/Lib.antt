pub mod AllUp
pub mod Asked
pub mod Earlier
pub mod Nodes
pub mod Samples
pub mod Submits
pub mod Reported
