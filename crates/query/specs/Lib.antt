pub mod Asked
pub mod Facts
pub mod Grammar
pub mod Line
pub mod Resolving
pub mod Written
