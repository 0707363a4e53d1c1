pub mod Printed
pub mod EvidencePrinted
pub mod Within
pub mod Rows
