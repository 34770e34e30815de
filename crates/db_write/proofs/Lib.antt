pub mod FoundThrough
pub mod ReachedThrough
pub mod RowAssigned
pub mod RowDeleted
pub mod RowInserted
pub mod RowReached
pub mod RowUpdated
pub mod WrittenThrough
