pub mod Gathering
pub mod Pieces
pub mod Reading
pub mod Only
