pub mod Examples
pub mod Joint
pub mod Means
pub mod Rg
pub mod Steps
