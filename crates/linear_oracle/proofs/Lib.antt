pub mod Firsts
pub mod Shares
pub mod Runs
mod Answering
pub mod Placed
