pub mod Reading
pub mod Kinds
pub mod Things
pub mod Entries
