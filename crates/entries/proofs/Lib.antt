pub mod Children
pub mod Nodes
pub mod Connections
pub mod Judging
pub mod Support
pub mod Kept
pub mod Grown
pub mod Single
