pub mod Asked
pub mod Depending
pub mod Pairs
pub mod Presenting
pub mod Verifying
