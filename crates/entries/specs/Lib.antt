pub mod Nodes
pub mod Connections
