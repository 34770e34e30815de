pub mod Copy
pub mod Copying
pub mod Filling
pub mod Leaving
pub mod Pieces
pub mod Progress
