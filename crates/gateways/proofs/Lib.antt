-- The laws of crate gateways, and what they rest on.
pub mod Entries
pub mod Bounds
pub mod Accepting
pub mod Laws
pub mod Examples
