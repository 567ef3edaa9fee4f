-- The expansion at i/64 is the same polynomial, and the numerators are the series' coefficients. Assumes nothing.
use Rattle.std.specs.Prelude.{ℕ, zero, suc, ◌+◌, ◌*◌, ◌^◌, ◌≡◌, refl, Bool, true, ◌&&◌, List, [], ◌∷◌, T, eqb, length}
use Rattle.std.proofs.Common.{sym, ◌∙◌, ap, arith, eqb→eq}
use Rattle.std.proofs.Math.Nat.{pow-succ', pow-zero}
use Rattle.std.specs.Float.Ieee.Fits.{and_l, and_r}
use Rattle.algebra.specs.Ring.{◌:+◌, ◌:*◌, ◌≈◌, ◌⊩◌, ◌times◌≼◌, Law}
use Rattle.algebra.proofs.Ring.{by_ring}
use Rattle.enclosure.specs.Quotient.{Quotient}
use Rattle.enclosure.specs.Pieces.{Series, euler, odd, terms, denominator, next, numerators_from, numerators, times_shift}
use Rattle.enclosure.specs.Pieces.{shifted}
use Rattle.enclosure.specs.Expansion.{coefficient, exact}

-- c_0 + c_1 p/q + c_2 (p/q)^2 + .., over q ^ length
abbrev pub evaluate : List ℕ → ℕ → ℕ → ℕ
evaluate [] p q = 0
evaluate (c ∷ cs) p q = c * q ^ suc (length cs) + p * evaluate cs p q

-- ---- the numerators are the coefficients over M: a computed test
abbrev pub right_from : Series → ℕ → ℕ → ℕ → ℕ → Bool
right_from s M zero n C = true
right_from s M (suc left) n C = eqb (C * (coefficient s n).den) ((coefficient s n).num * M) && right_from s M left (suc n)
    (next s n C)
