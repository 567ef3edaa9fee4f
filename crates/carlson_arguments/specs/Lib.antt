pub mod Checks
pub mod Rescaling
pub mod Rescaled
pub mod Door
