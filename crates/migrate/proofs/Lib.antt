pub mod Versions
pub mod Writing
