pub mod Runs
pub mod Relaxed
pub mod Stretching
pub mod Costs
pub mod Origins
pub mod Shares
pub mod Laws
