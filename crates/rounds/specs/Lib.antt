pub mod Inside
pub mod Sign
pub mod Exact
pub mod Runs
pub mod Bounds
pub mod Rescalings
