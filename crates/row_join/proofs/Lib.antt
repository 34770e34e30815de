pub mod Levels
pub mod Stable
pub mod Indexes
pub mod Rows
pub mod Extending
mod Worked
