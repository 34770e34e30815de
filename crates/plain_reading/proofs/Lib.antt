pub mod JoinedNames
pub mod MovedRows
pub mod ReadableObjects
pub mod ToldRows
