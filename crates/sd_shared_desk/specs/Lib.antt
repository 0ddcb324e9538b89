pub mod Asks
pub mod Behind
pub mod BehindInside
pub mod Shared
pub mod Counts
