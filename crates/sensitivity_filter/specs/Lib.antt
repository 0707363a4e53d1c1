pub mod Cores
pub mod Pairs
