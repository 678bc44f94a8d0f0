pub mod Entries
pub mod Rules
pub mod Whole
pub mod Back
pub mod InRange
