pub mod Answering
pub mod Cutting
pub mod Line
pub mod Reading
