pub mod Panics
pub mod Explain
pub mod Paths
pub mod Distances
pub mod Flatten
pub mod Trees
pub mod Read
