pub mod Joined
pub mod Evaluated
pub mod Declared
pub mod Parts
pub mod Stocks
