-- An order and its judgement.
pub mod Order
pub mod Checked
