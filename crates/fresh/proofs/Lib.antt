-- The laws of crate fresh, and what they rest on.
pub mod HomePlaces
pub mod Starts
