pub mod LateStates
