pub mod Firsts
pub mod Pairs
pub mod Named
pub mod Numbers
pub mod Witnessed
pub mod Entered
pub mod Ended
pub mod Counted
pub mod Bounding
pub mod Reaching
pub mod Pricing
pub mod Believed
pub mod Reached
pub mod Along
mod Examples
