pub mod ChangedMachines
pub mod FoundUsers
pub mod ReadMachines
pub mod SeenSessions
pub mod TakenMachines
pub mod TakenSessions
pub mod ValidMachines
