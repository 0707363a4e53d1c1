pub mod EarlyStates
pub mod Adding
