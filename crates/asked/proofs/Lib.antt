pub mod Arguments
pub mod Asked
pub mod Before
pub mod Helper
pub mod Lost
pub mod Rc
pub mod Reached
