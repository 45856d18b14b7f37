-- The orders that are tried.
pub mod Orders
