-- The laws that belong to no one function.
pub mod Filled
pub mod Drives
pub mod Writes
pub mod Sides
pub mod Plans
