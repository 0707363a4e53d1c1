pub mod Words
pub mod Firsts
pub mod Loads
pub mod Counts
