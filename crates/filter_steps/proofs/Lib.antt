pub mod Sets
pub mod Proofs
pub mod Reducing
pub mod Witnessed
pub mod Reached
pub mod Answering
