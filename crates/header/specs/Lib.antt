-- The definitions of crate header.
pub mod Fields
pub mod Answers
pub mod Steps
