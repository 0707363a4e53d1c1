pub mod Rows
pub mod Layouts
pub mod Value
pub mod Sound
pub mod Stops
pub mod Starts
pub mod Forming
