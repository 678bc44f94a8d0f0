pub mod State
pub mod Step
pub mod Answer
pub mod Ran
