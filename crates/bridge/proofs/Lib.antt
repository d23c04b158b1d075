-- The laws of crate bridge, and what they rest on.
pub mod Hops
pub mod Weights
pub mod States
pub mod Beginning
pub mod Offers
pub mod Steps
pub mod Theorems
