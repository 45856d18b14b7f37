pub mod Limits
pub mod Refusals
