pub mod Ending
pub mod Failing
pub mod Going
pub mod Holding
pub mod Line
pub mod Load
pub mod Printed
pub mod Quiet
