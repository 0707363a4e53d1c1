pub mod Ends
pub mod Held
pub mod Listed
pub mod Taking
pub mod Back
pub mod OptimalEnds
pub mod Laws
