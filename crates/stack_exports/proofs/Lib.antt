-- The laws of crate stack_exports, and what they rest on.
pub mod Unpacked
pub mod StackAnswers
pub mod Kept
pub mod Examples
