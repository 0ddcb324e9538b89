pub mod Delivery
pub mod Leads
pub mod Offers
