pub mod Exact
pub mod Steps
pub mod ExactLaws
