pub mod Walk
pub mod Narrow
pub mod Pending
pub mod Ends
pub mod Boxes
