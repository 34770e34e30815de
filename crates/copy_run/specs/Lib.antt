pub mod Copies
pub mod Racks
pub mod Runs
