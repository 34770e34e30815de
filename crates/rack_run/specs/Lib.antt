pub mod Carrying
pub mod Prompts
pub mod RackGrammar
pub mod Runs
pub mod Status
pub mod Turns
pub mod Views
pub mod ViewLaws
