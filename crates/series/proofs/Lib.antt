-- `Certificate`: a quotient told by both words of its product. `Digits`: a digit of a quotient, by one more than the divisor's
-- upper part. `Patterns`: what words tell that are f64s' patterns. `Products`: upper words of products. `Seeds`: the divisors and
-- seeds of ln_1p and ln. `Zeros`: leading zeros, of ln's exponent and of digits.
mod Certificate
mod Digits
mod Patterns
mod Products
mod Seeds
mod Zeros
pub mod Arguments
pub mod Cases
pub mod Ends
pub mod Examples
pub mod Small
pub mod Within
