pub mod Penned
pub mod Digits
pub mod Only
