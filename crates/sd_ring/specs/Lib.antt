pub mod Homes
pub mod Points
pub mod Recent
pub mod RingInside
