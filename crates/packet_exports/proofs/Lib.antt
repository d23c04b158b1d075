-- The laws of crate packet_exports, and what they rest on.
pub mod Unpacked
pub mod Looked
pub mod Fours
pub mod CarryAnswers
pub mod ReadAnswers
pub mod Examples
