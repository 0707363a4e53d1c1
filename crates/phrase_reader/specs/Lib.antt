pub mod Parts
pub mod Phrases
pub mod Words
pub mod Numerals
pub mod Commands
