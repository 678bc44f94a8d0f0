pub mod Legs
pub mod Laid
