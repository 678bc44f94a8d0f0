pub mod Slot
pub mod Asked
pub mod Sides
