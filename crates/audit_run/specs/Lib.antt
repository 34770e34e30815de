pub mod Ends
pub mod Entries
pub mod Found
pub mod Progress
pub mod Reading
pub mod Runs
pub mod Transcript
pub mod Verdicts
