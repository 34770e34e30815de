pub mod Joining
pub mod Nearest
pub mod ToldRows
