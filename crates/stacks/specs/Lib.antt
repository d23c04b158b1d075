-- The definitions of crate stacks.
pub mod Stacks
pub mod Answers
pub mod Steps
