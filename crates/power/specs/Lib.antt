pub mod Power
pub mod Laws
pub mod Parts
pub mod Examples
