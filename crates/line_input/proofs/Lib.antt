pub mod CutLines
pub mod Feeding
pub mod Taking
