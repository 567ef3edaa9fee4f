pub mod JobAnswers
pub mod JobLaws
