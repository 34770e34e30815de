pub mod Calls
pub mod Following
pub mod Giving
pub mod Presenting
