-- The laws of a list of waiting words, and the examples.
pub mod Search
pub mod Answers
pub mod Examples
