-- The laws that belong to no one function.
pub mod Asked
pub mod Main
pub mod Passes
pub mod Same
