pub mod Desk
pub mod Facts
pub mod Marks
pub mod Tally
pub mod Sums
pub mod Steps
