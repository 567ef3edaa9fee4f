-- `Law`: which pattern is the root's. `Halves`: c * (c + 1) by the halves of c. `Scale`: a pattern's value as n * 4 ^ y.
-- `Upper`: the digits by the upper word of their square. `Special`: NaN, zeros, infinities, negative numbers.
mod Law
mod Halves
mod Upper
mod Scale
mod Special
pub mod Examples
pub mod Laws
pub mod TogetherLaws
