pub mod Racked
