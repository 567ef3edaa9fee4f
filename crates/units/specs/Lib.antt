pub mod Statement
pub mod Kinds
pub mod Arguments
pub mod Limits
pub mod Runs
pub mod Answers
pub mod Ran
