pub mod Index
pub mod IndexLaws
pub mod Ordered
pub mod Places
pub mod SideRows
