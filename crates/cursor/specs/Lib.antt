pub mod Costs
pub mod Feed
pub mod Moved
