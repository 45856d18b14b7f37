-- Lists of targets, and the orders that give them.
pub mod Targets
pub mod Given
pub mod Recognised
pub mod Apart
pub mod Found
