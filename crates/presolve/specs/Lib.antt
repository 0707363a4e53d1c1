pub mod Plans
pub mod Next
pub mod Reduced
pub mod Eliminated
pub mod Forced
pub mod Looked
pub mod Quiet
