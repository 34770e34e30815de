pub mod Cuts
pub mod Spans
pub mod Told
