pub mod Head
pub mod Passes
