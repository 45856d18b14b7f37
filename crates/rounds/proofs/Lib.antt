pub mod Products
pub mod Places
pub mod Swapping
pub mod Erasing
