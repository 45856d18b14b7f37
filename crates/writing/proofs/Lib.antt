pub mod Put
pub mod Refused
pub mod Digits
