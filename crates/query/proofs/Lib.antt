mod ExampleLines
pub mod Asking
pub mod Gaining
pub mod InTurn
pub mod Naming
pub mod Sound
