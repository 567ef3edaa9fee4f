pub mod Words
pub mod Numbers
pub mod Lines
pub mod WordLaws
pub mod NumberLaws
pub mod LineLaws
