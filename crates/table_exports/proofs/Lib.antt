-- The laws of crate table_exports, and what they rest on.
pub mod Unpacked
pub mod Answered
pub mod Kept
pub mod Examples
