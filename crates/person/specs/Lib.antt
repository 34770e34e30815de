pub mod Progress
pub mod Showing
