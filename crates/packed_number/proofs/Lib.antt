pub mod Groups
pub mod NumberLaws
