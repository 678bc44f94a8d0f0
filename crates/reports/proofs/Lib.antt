pub mod Fields
pub mod Only
pub mod Verdicts
