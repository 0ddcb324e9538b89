pub mod Held
pub mod Cut
pub mod Cutting
