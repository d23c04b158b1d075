-- The definitions of crate functions.
pub mod Functions
pub mod Answers
pub mod Parts
