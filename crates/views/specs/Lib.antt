pub mod Below
pub mod Resolved
