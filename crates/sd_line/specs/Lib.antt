pub mod Cut
pub mod Named
pub mod Reading
pub mod Piece
pub mod Lines
pub mod Sample
pub mod Values
