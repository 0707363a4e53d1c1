pub mod Escaping
pub mod Pieces
