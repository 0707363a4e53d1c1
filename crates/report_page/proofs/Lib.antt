pub mod Escaped
pub mod Marked
pub mod Placed
pub mod Turned
