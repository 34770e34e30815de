pub mod Copied
pub mod Ending
pub mod Opening
pub mod Sent
pub mod Showing
pub mod Transacting
pub mod Turning
pub mod WorkedCopies
