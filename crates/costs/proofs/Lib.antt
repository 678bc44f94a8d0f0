pub mod Climbs
pub mod Priced
pub mod Sums
pub mod Payable
pub mod Only
