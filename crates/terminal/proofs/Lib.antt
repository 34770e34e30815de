pub mod Ended
pub mod Meant
pub mod RowTexts
pub mod Went
mod WorkedLoad
