-- The definitions of crate stack_exports.
pub mod Packing
pub mod Ranges
