pub mod Lined
pub mod Owned
pub mod Placed
mod WorkedRack
