-- An f64 taken apart: `Pattern`, `Scale`. The sum: `Words`, `Total`, `Unit`, and `Finish` for the way back to `fused`. `Zeros`:
-- NaN, infinities and zeros.
mod Scale
mod Words
mod Total
mod Unit
mod Pattern
mod Finish
mod Zeros
pub mod Examples
pub mod Laws
