-- The definitions of crate deliver_exports.
pub mod Packing
pub mod Ranges
pub mod Run
