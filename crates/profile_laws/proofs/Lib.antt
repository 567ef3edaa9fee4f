pub mod AnyOrder
pub mod Sizes
pub mod Units
