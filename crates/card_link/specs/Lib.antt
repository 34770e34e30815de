pub mod Failing
pub mod Link
pub mod Recording
pub mod RecordingLaws
