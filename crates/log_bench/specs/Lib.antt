pub mod Entries
pub mod Log
pub mod LogBench
pub mod Writes
