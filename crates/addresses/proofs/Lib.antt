-- What is proved of addresses both ways.
pub mod Asked
pub mod Main
pub mod Outcome
