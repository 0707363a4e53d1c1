mod Directed
mod Systems
mod Duals
mod Rays
pub mod Settled
mod Running
mod Ending
pub mod Ordered
