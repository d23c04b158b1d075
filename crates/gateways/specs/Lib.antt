-- The definitions of crate gateways.
pub mod Gateways
