-- The definitions of crate table_exports.
pub mod Packing
pub mod Ranges
