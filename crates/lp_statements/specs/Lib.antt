pub mod Words
pub mod Items
pub mod Statements
pub mod Grammar
pub mod Script
pub mod Shapes
pub mod Spelling
pub mod Cursor
