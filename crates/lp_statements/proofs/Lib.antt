pub mod Tests
pub mod Pieces
pub mod Lists
pub mod Steps
pub mod Repeats
pub mod Spelled
pub mod Ended
