pub mod RoundedLimbs
pub mod Steps
