pub mod Stands
pub mod Signed
pub mod Shift
pub mod Normal
