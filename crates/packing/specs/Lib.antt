-- The definitions of crate packing.
pub mod Packing
pub mod Ranges
