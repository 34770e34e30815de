pub mod Joins
pub mod Links
pub mod Places
pub mod Joined
