pub mod Ages
pub mod Ends
pub mod Older
pub mod Filled
pub mod Climbing
pub mod Rooted
pub mod Only
