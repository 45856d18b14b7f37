pub mod Masks
pub mod Marked
pub mod Followed
pub mod Pairs
pub mod Steps
