pub mod Printing
pub mod Numbers
pub mod Evidence
pub mod EvidenceNumbers
pub mod Rows
