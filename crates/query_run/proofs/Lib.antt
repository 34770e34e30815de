pub mod Answered
pub mod Fetched
pub mod Found
pub mod Ran
pub mod Responded
pub mod Said
pub mod Showing
pub mod Tables
pub mod UserRan
mod WorkedQueries
