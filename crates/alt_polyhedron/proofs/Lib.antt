mod Ending
mod Shares
mod Prices
mod Least
mod Lists
mod Terms
mod Factors
pub mod Variables
pub mod Formed
mod Bounded
