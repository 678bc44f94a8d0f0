pub mod Remaining
pub mod First
pub mod Walk
pub mod Single
pub mod Only
