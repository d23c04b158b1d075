-- The laws of crate packet.
pub mod Packets
