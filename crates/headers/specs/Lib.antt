-- The definitions of crate headers.
pub mod Chains
pub mod Answers
pub mod Steps
pub mod Examples
pub mod Promise
