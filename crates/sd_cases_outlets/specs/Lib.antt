pub mod Cell
pub mod Lookers
