pub mod Taken
pub mod Left
pub mod Status
pub mod Output
pub mod Said
pub mod Going
pub mod Only
