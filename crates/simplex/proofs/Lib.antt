pub mod Firsts
pub mod Narrow
pub mod Combining
pub mod Nearer
pub mod Walks
pub mod Stops
pub mod Steps
pub mod Turned
pub mod Ends
pub mod Columns
pub mod Optimal
pub mod Free
pub mod Listed
pub mod Meaning
mod Reached
