-- What proofs and inner contracts of a stored plan go by; the rules need none of it.
pub mod Store
