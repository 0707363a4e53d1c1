pub mod Enforced
pub mod Included
