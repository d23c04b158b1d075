-- The definitions of crate refusal.
pub mod Numbers
