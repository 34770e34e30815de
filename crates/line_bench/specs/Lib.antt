pub mod LineBench
pub mod Spans
