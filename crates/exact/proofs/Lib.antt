-- `Over`: every digit turned over. `Moved`: a value's digits at two words. `Held`: from values to what the functions leave.
mod Over
mod Moved
mod Held
pub mod ExactLaws
pub mod Examples
