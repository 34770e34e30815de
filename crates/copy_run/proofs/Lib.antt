pub mod Named
pub mod Relinking
