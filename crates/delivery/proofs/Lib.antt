-- The laws that belong to no one function.
pub mod InOrder
pub mod Promised
pub mod Outcome
