-- The laws of crate stacks, and what they rest on.
pub mod Tests
pub mod Count
pub mod Scan
pub mod Heights
pub mod Outcomes
pub mod Numbers
pub mod Laws
pub mod Examples
