pub mod Verdict
pub mod Measured
pub mod VerdictLaws
