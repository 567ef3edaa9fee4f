pub mod Limits
pub mod Starts
