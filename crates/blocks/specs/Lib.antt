-- What proofs and inner contracts of a move go by; the rules need none of it.
pub mod Places
pub mod Moving
