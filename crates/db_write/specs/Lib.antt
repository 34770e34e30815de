pub mod Assigned
pub mod Reached
