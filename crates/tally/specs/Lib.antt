pub mod Tally
pub mod Meaning
pub mod SumLaws
pub mod WordLaws
pub mod JoinLaws
pub mod MeaningLaws
