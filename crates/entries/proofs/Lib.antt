pub mod Found
pub mod Passed
pub mod Filled
pub mod Written
pub mod Some
pub mod Main
