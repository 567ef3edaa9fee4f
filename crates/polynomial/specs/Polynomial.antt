-- The polynomial of RC near equal arguments: 1 - y / 3 + y² / 5 - .. + y⁸ / 17, by Horner's rule from the highest coefficient,
-- product and sum rounded apart (document 01, "What the leaves mean"). Definitions only.
use Rattle.std.specs.Prelude.{ℕ, zero, suc, ◌+◌, ◌*◌, ◌%◌, cond, pos, negsuc, eqb, Float}
use Rattle.std.specs.Float.{binary64}
use Rattle.std.specs.Float.Ieee.{of_int}
use Rattle.binary64.specs.Operators.{◌⊕◌, ◌⊗◌, ◌⊘◌}

-- the coefficient of y to the power k: ±1 / (2 k + 1), the quotient of two whole numbers, rounded
unfoldable pub coefficient : ℕ → Float
coefficient k = of_int binary64 (cond (eqb (k % 2) 0) (pos 1) (negsuc 0)) ⊘ of_int binary64 (pos (2 * k + 1))

-- the terms below the k-th still to be taken, the highest first: sum is what is found so far
unfoldable pub down : Float → ℕ → Float → Float
down y zero sum = sum
down y (suc k) sum = down y k (sum ⊗ y ⊕ coefficient k)

unfoldable pub horner : Float → Float
horner y = down y 8 (coefficient 8)
