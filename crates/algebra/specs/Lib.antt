-- Linear algebra over GF(2), on numbers.
pub mod Search
pub mod Vector
pub mod Matrix
pub mod Elimination
pub mod Carry
pub mod Examples
