-- The definitions of crate promise.
pub mod Routes
pub mod Promise
