pub mod Area
pub mod Present
