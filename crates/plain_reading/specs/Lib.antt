pub mod Commands
pub mod Found
pub mod Outcomes
pub mod Put
