pub mod Address
pub mod Packet
pub mod Identifier
