pub mod Layers
pub mod ObjectDropped
pub mod ObjectLeft
pub mod ObjectMade
pub mod TableLeft
pub mod ViewMade
