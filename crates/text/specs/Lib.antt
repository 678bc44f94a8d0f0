pub mod Lines
pub mod Nodes
pub mod Writing
