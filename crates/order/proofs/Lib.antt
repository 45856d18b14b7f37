pub mod Judged
pub mod Accepted
pub mod Main
pub mod Passing
pub mod Refused
