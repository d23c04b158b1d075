-- The laws of crate packing, and what they rest on.
pub mod Unpacked
pub mod Examples
