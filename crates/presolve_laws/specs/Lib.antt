pub mod Eased
pub mod Answers
pub mod Laws
