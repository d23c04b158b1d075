-- The definitions of crate examples.
pub mod Examples
