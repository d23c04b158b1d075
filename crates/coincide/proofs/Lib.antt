-- The theorems of crate coincide.
pub mod Functions
pub mod Exported
