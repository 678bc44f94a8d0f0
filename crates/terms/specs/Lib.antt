pub mod Place
pub mod Whole
