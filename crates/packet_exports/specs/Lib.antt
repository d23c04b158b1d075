-- The definitions of crate packet_exports.
pub mod Packing
pub mod Ranges
pub mod Four
pub mod Steps
