-- The laws of crate step, and what they rest on.
pub mod Tests
pub mod Tells
pub mod Hearing
pub mod Network
pub mod Listed
