pub mod Reading
pub mod Fold
pub mod Status
pub mod Outcomes
