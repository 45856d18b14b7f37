-- What the calls for steps and runs promise.
pub mod Promise
pub mod Turn
pub mod Lent
