-- What the rounding down of a row and of Horner's rule loses, and what the terms that a row leaves out amount to: at a point
-- of the piece the rule is at most 3 parts too low for its 12 terms, and the rest is at most the sum of its coefficients.
-- (A step multiplies by at most 1/16, and loses less than 1 part twice.) Assumes nothing.
use Rattle.std.specs.Prelude.{ℕ, zero, suc, ◌+◌, ◌*◌, ◌/◌, ◌^◌, ◌≤◌, ◌<◌, ◌≡◌, refl, Bool, true, ◌&&◌, List, [], ◌∷◌, T, leb, length, get_or}
use Rattle.std.proofs.Common.{le_of_mul-le-mul_right, div-mul-le_self, div-lt_iff_lt-mul, mul-zero, arith, leb→le, pow_pos}
use Rattle.std.proofs.Math.Nat.{lt-div-mul-add, pow-succ', zero-div}
use Rattle.std.specs.Float.Ieee.Fits.{and_l, and_r}
use Rattle.algebra.specs.Ring.{con, nxt, ◌:+◌, ◌:*◌, ◌≈◌, ◌⊩◌, ◌times◌≼◌, Order}
use Rattle.algebra.proofs.Ring.{by_below}
use Rattle.enclosure.specs.Pieces.{entry, entries, horner}
use Rattle.enclosure.specs.Shifted.{evaluate}

-- ---- Horner's rule stays in a word
abbrev pub all_fit : List ℕ → Bool
all_fit [] = true
all_fit (r ∷ rs) = leb r (15 * 2 ^ 60) && all_fit rs

-- ---- the coefficients that a row leaves out, summed
abbrev pub total : List ℕ → ℕ
total [] = 0
total (b ∷ bs) = b + total bs

abbrev pub left_out : ℕ → List ℕ → ℕ
left_out zero bs = total bs
left_out (suc k) [] = 0
left_out (suc k) (b ∷ bs) = left_out k bs
