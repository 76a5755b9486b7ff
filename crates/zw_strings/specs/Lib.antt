pub mod Pieces
pub mod Work
