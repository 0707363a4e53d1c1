pub mod Value
pub mod Steps
pub mod Answers
