-- The laws of crate run, and what they rest on.
pub mod Flags
pub mod Blocks
pub mod Running
pub mod Keeping
pub mod Marks
pub mod Turning
pub mod Gateways
