pub mod Calls
pub mod Scale
