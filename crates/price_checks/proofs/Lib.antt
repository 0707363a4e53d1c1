pub mod Products
pub mod Member
pub mod Cost
