-- `Fours`: powers of four, shut. `Odd`: a middle's square times the cube. `OneWord`: the bound of one word. `Limbs`: the exact
-- product.
-- `Law`: which pattern is the answer's. `Special`: NaN, zeros, infinities, negative numbers.
mod Fours
mod Odd
mod OneWord
mod Limbs
mod Law
mod Special
