-- The laws and theorems, each file on those above it.
pub mod Sum
pub mod Laws
pub mod Sound
pub mod Ceiling
pub mod Carry
pub mod Optimal
pub mod Ends
pub mod Act
pub mod Example
