pub mod Delivery
pub mod Outcome
