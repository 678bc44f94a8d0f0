pub mod Digits
pub mod Lines
pub mod Spelled
pub mod Only
