pub mod Closing
pub mod Completing
pub mod Cutting
mod ExampleLines
pub mod FaultPlaces
pub mod Formed
pub mod Fresh
pub mod Lawful
pub mod Listing
pub mod Locality
pub mod PartRules
pub mod ReadingRows
pub mod Sendable
pub mod SentLines
pub mod StatementRules
pub mod Undoubling
pub mod Within
