pub mod Granted
pub mod Rights
pub mod Seen
