pub mod Measure
pub mod Demand
pub mod Query
