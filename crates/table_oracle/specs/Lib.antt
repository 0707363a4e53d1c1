pub mod Value
pub mod Judged
