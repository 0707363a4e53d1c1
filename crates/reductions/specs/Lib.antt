pub mod Stage
pub mod Limited
pub mod Rules
pub mod Reduction
pub mod Back
pub mod Laws
pub mod Known
