pub mod Trials
pub mod Stops
pub mod Sparse
pub mod Uses
pub mod Truth
pub mod Replay
