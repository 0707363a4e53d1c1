pub mod Reading
pub mod Pricing
pub mod Forms
pub mod Laws
