pub mod ProfileAnswers
