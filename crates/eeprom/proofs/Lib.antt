pub mod Chains
mod ExampleImage
pub mod InOrder
pub mod Kept
pub mod Leaves
pub mod Moments
pub mod Overwrite
pub mod Places
pub mod PutBack
pub mod Regions
pub mod Replayed
pub mod SameFrom
pub mod Taken
pub mod Telling
