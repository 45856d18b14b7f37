-- Where an order sends an address, and where one comes from.
pub mod Address
pub mod Answered
pub mod Outcome
