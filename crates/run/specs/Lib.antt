-- The definitions of crate run.
pub mod Flags
pub mod Turns
