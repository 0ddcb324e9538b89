pub mod Views
pub mod Rule
pub mod Live
pub mod Looks
