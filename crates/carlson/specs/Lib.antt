pub mod Constants
pub mod Answer
pub mod Only
pub mod Ways
pub mod Loop
pub mod Common
