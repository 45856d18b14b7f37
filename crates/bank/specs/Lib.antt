-- The bank of drives: its limits and its numbers.
pub mod Limits
pub mod Geometry
pub mod Checks
pub mod Refusal
