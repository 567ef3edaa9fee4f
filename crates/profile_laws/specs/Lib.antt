pub mod Statement
pub mod Arguments
pub mod Checks
pub mod Sizes
