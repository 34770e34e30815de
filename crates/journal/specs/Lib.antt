pub mod Faults
pub mod Journal
pub mod Redo
pub mod Replay
pub mod Run
