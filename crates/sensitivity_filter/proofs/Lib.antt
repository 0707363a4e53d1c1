pub mod FirstCores
pub mod Pairs
