pub mod Classes
pub mod Whole
pub mod Only
