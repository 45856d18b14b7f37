-- The laws that belong to no one function.
pub mod Columns
pub mod Sizes
pub mod Paces
pub mod Plans
