-- The laws of a waiting word, and the examples.
pub mod Bits
pub mod Laws
pub mod Masks
pub mod LowestBit
pub mod Counts
pub mod Examples
