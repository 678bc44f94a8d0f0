pub mod Patterns
pub mod Binding
pub mod Item
pub mod Match
pub mod Matching
pub mod BothSides
pub mod Only
