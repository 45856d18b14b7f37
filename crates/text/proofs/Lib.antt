pub mod Decimals
pub mod RowLines
pub mod LineEnds
