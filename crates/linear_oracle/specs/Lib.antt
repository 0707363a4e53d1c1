pub mod Ended
pub mod Value
