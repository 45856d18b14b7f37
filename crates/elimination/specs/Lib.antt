-- The code's entries and answers, as the definitions have them.
pub mod Echelon
pub mod Solved
