pub mod Text
pub mod Unpack
pub mod WholeLaws
