pub mod Lead
pub mod Mean
pub mod Gaps
pub mod Step
pub mod Start
pub mod Series
pub mod Means
