mod Floors
mod Values
mod TakenNodes
pub mod Answering
pub mod Reference
