-- What is proved of lists of targets.
pub mod AllBits
pub mod Numbered
pub mod Only
pub mod Given
pub mod Parts
pub mod Judged
pub mod Main
