pub mod Cuts
pub mod Entered
pub mod Logged
