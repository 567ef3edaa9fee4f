-- `Short`: what is written. `Guess`, `Whole`: the power of ten at which the f64 has 18 digits or 19, and these. `Digits`: one
-- digit less. `Start`: where that begins.
pub mod Short
pub mod Guess
pub mod Whole
pub mod Digits
pub mod Start
