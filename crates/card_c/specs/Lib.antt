pub mod Calls
pub mod DeskLaws
pub mod HeldCard
pub mod Lines
pub mod OnLog
pub mod Owning
