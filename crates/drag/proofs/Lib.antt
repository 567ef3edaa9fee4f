pub mod ByParts
pub mod VerdictLaws
