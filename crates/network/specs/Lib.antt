-- The definitions of crate network.
pub mod Network
pub mod Handed
pub mod Answers
pub mod Steps
pub mod SmallNetwork
