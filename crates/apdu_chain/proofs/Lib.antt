pub mod CarriedOut
pub mod ChainsSet
pub mod PartsJoined
pub mod TakenForms
