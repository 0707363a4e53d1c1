pub mod Systems
pub mod Meeting
pub mod Ends
pub mod PresolveAnswers
