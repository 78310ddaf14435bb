-- The laws of IPv6 that the other crates cite.
pub mod Hops
pub mod Identifier
pub mod Packet
