pub mod Numbers
pub mod Summaries
pub mod Unambiguous
pub mod Statuses
pub mod Decided
pub mod Counts
pub mod ShownBytes
pub mod LpNames
pub mod MpsNames
pub mod Named
mod Passing
mod Used
mod Unfailed
mod Outcome
mod Shown
mod Isolated
mod Diagnosed
mod Relaxed
mod Replied
mod Answered
mod Entries
mod Examples
