-- What proofs and inner contracts of a pass's tables go by; the rules need none of it.
pub mod Pace
pub mod Tables
