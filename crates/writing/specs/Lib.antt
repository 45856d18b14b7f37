-- What is written into a room: a text at a place, and the line of a refusal.
pub mod Refusal
pub mod Written
