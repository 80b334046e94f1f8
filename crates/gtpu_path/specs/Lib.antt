pub mod Rules
pub mod Octets
pub mod Packet
pub mod Tunnel
pub mod Hex
