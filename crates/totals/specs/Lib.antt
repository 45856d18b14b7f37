-- What a plan totals, and where its result lies, whoever made it.
pub mod Total
