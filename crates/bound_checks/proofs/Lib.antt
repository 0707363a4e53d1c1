pub mod Factors
pub mod Shown
pub mod Kept
pub mod Apart
