pub mod Hangs
pub mod Meet
