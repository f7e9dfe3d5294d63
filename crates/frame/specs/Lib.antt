pub mod Layout
pub mod Packets
pub mod Laws
