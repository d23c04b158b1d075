-- The laws of the crate, from the chains up to the promises.
pub mod Reading
pub mod Bounds
pub mod Trailing
pub mod Numbering
pub mod Follows
pub mod Following
pub mod Answering
pub mod Examples
pub mod Listed
pub mod Kept
