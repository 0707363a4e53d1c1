pub mod Sections
pub mod Records
pub mod Shapes
pub mod Contexts
pub mod Steps
pub mod Said
