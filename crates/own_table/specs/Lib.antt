pub mod OwnAnswers
pub mod OwnLine
pub mod JobLine
pub mod OwnTable
