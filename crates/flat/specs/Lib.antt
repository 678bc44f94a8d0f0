pub mod Marks
pub mod Ends
pub mod Nodes
pub mod Accepted
pub mod Delivered
