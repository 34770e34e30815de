pub mod Dependent
pub mod Dropped
pub mod Layers
