pub mod Endings
pub mod Followed
pub mod FoundRows
pub mod GrantsLeft
pub mod RemovedRows
pub mod RowsChanged
pub mod RowsLeft
pub mod RowsMade
