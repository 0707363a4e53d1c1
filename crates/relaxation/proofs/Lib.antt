pub mod Solved
mod Lists
mod Missing
mod Plain
mod Eased
mod Least
mod Totals
mod Bounded
mod Shares
mod BestEnds
pub mod Reaching
mod Parts
pub mod Found
pub mod Joined
mod Soft
mod Rows
mod Listed
pub mod Few
pub mod Formed
mod Distinct
mod Inserted
mod Standing
mod Sums
mod Evidence
