pub mod Backend
pub mod Outside
pub mod Uses
