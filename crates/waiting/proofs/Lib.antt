-- The laws of crate waiting.
pub mod Found
