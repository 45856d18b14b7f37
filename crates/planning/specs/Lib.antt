-- The plan of passes: what it is, how it is made, when it can run; and the state of its steps.
pub mod Pass
pub mod Columns
pub mod Making
pub mod Stored
pub mod State
pub mod Running
pub mod Inner
pub mod Facts
