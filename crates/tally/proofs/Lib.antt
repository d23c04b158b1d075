-- The laws of crate tally, and what they rest on.
pub mod Examples
