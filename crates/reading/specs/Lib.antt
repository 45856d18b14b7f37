-- Order texts, and how they are read.
pub mod OrderText
pub mod Reading
pub mod Parsing
pub mod Found
