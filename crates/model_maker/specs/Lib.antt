pub mod PlanText
pub mod PlanProgram
pub mod Making
pub mod PlanLaws
pub mod Refutation
