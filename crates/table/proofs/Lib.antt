pub mod Rest
pub mod TableLaws
