-- The definitions of crate hear.
pub mod Hearing
pub mod Answers
pub mod Steps
pub mod Handed
