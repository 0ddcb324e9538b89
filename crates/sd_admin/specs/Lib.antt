pub mod Command
pub mod Reply
pub mod Order
pub mod Words
pub mod Totals
