pub mod Starts
pub mod Limits
