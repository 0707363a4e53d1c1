pub mod Turns
pub mod Nodes
pub mod Forests
pub mod Judgements
pub mod TreeAnswers
pub mod TreeStops
pub mod Cuts
mod Outcomes
mod Ends
pub mod Boxes
