pub mod Handed
pub mod Truth
pub mod Judging
pub mod Stored
pub mod Area
pub mod Lent
