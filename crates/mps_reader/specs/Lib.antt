pub mod Tables
pub mod Sides
pub mod Faults
pub mod Meaning
pub mod Held
pub mod Gathered
pub mod Built
pub mod Lines
