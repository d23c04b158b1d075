-- The laws of crate functions, and what they rest on.
pub mod Tests
pub mod Moves
pub mod Outcomes
pub mod Back
pub mod Between
pub mod Laws
pub mod Examples
pub mod Parts
