pub mod Record
pub mod Desk
pub mod DeskHistory
pub mod Totals
pub mod Admin
pub mod Replies
pub mod Backends
