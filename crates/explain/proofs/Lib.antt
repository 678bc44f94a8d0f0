pub mod Going
pub mod Chains
pub mod Ends
pub mod Runs
