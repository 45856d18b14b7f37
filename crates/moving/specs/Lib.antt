-- The steps of a plan, on lists of bytes.
pub mod Bytes
pub mod Laid
pub mod Number
pub mod Step
pub mod Call
pub mod Blocks
