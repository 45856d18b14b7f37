-- Sets of columns as numbers.
pub mod Marks
