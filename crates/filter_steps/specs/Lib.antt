pub mod Isolated
pub mod Reductions
