pub mod Pattern
pub mod Rounded
pub mod Leaves
