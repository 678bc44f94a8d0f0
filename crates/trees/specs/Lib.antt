pub mod Area
pub mod Sizes
