-- The laws of crate hear, and what they rest on.
pub mod Sources
pub mod Leaders
pub mod Candidates
pub mod Below
pub mod Step
pub mod Offers
pub mod Answers
pub mod Loop
pub mod Laws
