pub mod Chosen
pub mod Ends
pub mod Points
pub mod Combined
pub mod ImproveChosen
pub mod ImproveEnds
pub mod Duals
pub mod Rays
