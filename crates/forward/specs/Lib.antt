-- The definitions of crate forward.
pub mod Forward
pub mod Answers
