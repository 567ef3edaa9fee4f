pub mod First
pub mod FirstLaws
pub mod Past
