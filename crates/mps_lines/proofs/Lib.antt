pub mod Shaped
pub mod Following
pub mod Reading
pub mod Ends
