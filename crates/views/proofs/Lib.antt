pub mod Below
pub mod Bindings
pub mod Reached
pub mod Stamped
