pub mod Alone
pub mod Answers
pub mod Value
pub mod Walks
pub mod Best
pub mod Cores
pub mod Stretching
