-- The definitions of crate fresh.
pub mod Filling
