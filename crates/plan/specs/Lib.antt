-- What a planning call answers.
pub mod Answer
