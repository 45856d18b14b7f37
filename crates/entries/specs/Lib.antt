-- Lists of targets as text: how they are read, and what is written for an answer.
pub mod ListText
pub mod FoundText
pub mod Outcome
pub mod Parsing
