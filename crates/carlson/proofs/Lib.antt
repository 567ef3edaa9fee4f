pub mod AnswerLaws
pub mod Only
pub mod Ways
