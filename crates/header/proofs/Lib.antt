-- The laws of the crate, from the fields up to what is answered.
pub mod Lengths
pub mod Rightness
pub mod Agreeing
pub mod Outcomes
pub mod Listed
