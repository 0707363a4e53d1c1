pub mod Lists
mod Sequence
pub mod Signs
pub mod Sides
pub mod Refuted
pub mod Filters
pub mod Further
pub mod Evaluate
pub mod Passed
pub mod Refused
pub mod Held
pub mod ColumnSums
pub mod PathNumbers
mod Tightest
pub mod Combined
pub mod Sound
pub mod Walk
pub mod Tableaus
pub mod Starts
pub mod Feasible
pub mod Choices
pub mod Blocked
pub mod Agreement
pub mod RunEnds
pub mod Numbered
pub mod Translated
pub mod HasLists
pub mod Parted
pub mod PlainForms
pub mod PlainPoints
pub mod PlainCuts
pub mod PlainOrder
pub mod PlainAnswers
pub mod Possible
mod Unpacked
