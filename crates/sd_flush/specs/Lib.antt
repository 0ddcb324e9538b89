pub mod Flushing
pub mod Made
pub mod Swapping
pub mod Tables
