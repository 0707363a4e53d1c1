pub mod Steps
pub mod Given
pub mod Missing
pub mod Passing
