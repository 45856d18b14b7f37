-- What proofs and inner contracts of a stripe go by; the rules need none of it.
pub mod Stripe
