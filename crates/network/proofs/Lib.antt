-- The laws of crate network, and what they rest on.
pub mod Entries
pub mod Pairs
pub mod Bounds
pub mod Sets
pub mod Rows
pub mod Laws
pub mod Examples
