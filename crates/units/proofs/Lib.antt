pub mod Answers
pub mod Arguments
pub mod Checks
