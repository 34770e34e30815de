pub mod Chaining
pub mod Le
pub mod Parts
pub mod Pending
