pub mod Bare
pub mod Around
pub mod Copied
pub mod Planted
pub mod Grown
pub mod Appended
pub mod Filled
pub mod Only
