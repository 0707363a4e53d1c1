pub mod Pivots
pub mod Shape
