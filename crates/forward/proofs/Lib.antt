-- The laws of crate forward, and what they rest on.
pub mod Looks
pub mod Tells
