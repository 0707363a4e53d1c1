pub mod Formed
pub mod Lists
pub mod MpsFormed
pub mod LpFormed
pub mod Meaning
