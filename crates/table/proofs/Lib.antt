-- The laws of crate table, and what they rest on.
pub mod Begins
pub mod Refusals
pub mod Places
pub mod Firsts
pub mod Walk
pub mod Rows
pub mod Deliveries
pub mod Order
pub mod Slices
