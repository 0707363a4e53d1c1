mod Falling
mod Returns
mod Counts
pub mod Endings
pub mod Nearest
mod Moved
pub mod Improving
pub mod Climbs
pub mod Bases
