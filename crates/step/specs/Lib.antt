-- The definitions of crate step.
pub mod Step
pub mod Steps
pub mod InNetwork
