-- The definitions of crate packet.
pub mod Packet
