-- The laws of crate deliver.
pub mod Beginning
pub mod Offers
