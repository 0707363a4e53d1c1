pub mod Easing
pub mod Value
