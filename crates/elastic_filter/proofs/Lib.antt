pub mod Included
pub mod Chains
