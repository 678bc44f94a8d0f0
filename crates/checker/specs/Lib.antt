pub mod Check
pub mod Fault
