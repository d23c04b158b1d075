-- The laws of refusal numbers, and of answers that may be refusals.
pub mod Named
pub mod Answers
