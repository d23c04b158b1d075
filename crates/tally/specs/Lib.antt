-- The definitions of crate tally.
pub mod Tally
