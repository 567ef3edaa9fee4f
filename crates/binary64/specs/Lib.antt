pub mod Leaves
pub mod Operators
pub mod Tests
pub mod Meaning
