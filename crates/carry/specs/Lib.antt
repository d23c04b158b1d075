-- The definitions of crate carry.
pub mod Carry
