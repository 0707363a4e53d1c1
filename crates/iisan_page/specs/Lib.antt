pub mod Paged
pub mod Asked
