pub mod Ends
pub mod Room
pub mod RoomInside
pub mod Sent
pub mod Start
pub mod Totals
pub mod Replayed
