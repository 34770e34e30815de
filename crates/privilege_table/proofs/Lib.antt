pub mod Bits
pub mod Seen
