pub mod Line
pub mod Pieces
