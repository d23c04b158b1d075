-- The examples of the specification, and one of them with all that a gateway does at a hearing.
pub mod Examples
pub mod Hearing
