pub mod Fused
pub mod Laws
pub mod Signs
pub mod Parts
