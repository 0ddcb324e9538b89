pub mod Values
pub mod Entries
pub mod Table
pub mod Settings
pub mod ConfigText
