pub mod Held
pub mod Climbed
pub mod Runs
pub mod Exact
pub mod Filling
pub mod Words
pub mod Ready
pub mod Only
