pub mod Slots
pub mod Put
pub mod Nodes
pub mod Rules
pub mod Connections
pub mod Only
