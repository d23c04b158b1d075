-- What the proofs of crate carry rest on.
pub mod Travels
pub mod Carries
