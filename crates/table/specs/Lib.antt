-- The definitions of crate table.
pub mod Table
pub mod Answers
pub mod Run
pub mod Handed
