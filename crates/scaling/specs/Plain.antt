-- From statements about floats alone to their units, and back: a float that fits has units, `le` is the order of units, and to be
-- a multiple by a power of two is said of fractions as of units.
use Rattle.std.specs.Prelude.{◌≡◌, refl, ℕ, zero, suc, ◌-◌, ◌*◌, ◌%◌, ◌^◌, ◌≤◌, Bool, true, false, ◌&&◌, ◌||◌, [], ◌∷◌, pos, negsuc, T, ltb, leb, eqb, Float}
use Rattle.std.proofs.Common.{sym, ap, ◌∙◌, subst, inl, inr, le_of_eq, le_of_lt, eq-or-lt_of_le, mul-one, mul-pos, ltb→lt, lt→ltb, leb→le, eqb→eq, pow-add, pow_pos}
use Rattle.std.proofs.Math.Nat.{eq_of_mul-eq-mul_right}
use Rattle.std.specs.Bool.{beq}
use Rattle.std.specs.Float.{nan, inf, fin, Format}
use Rattle.std.specs.Float.Ieee.{prec, emax, low, up, down, lt, eq, le, fits}
use Rattle.std.specs.Float.Ieee.Digits.{back}
use Rattle.std.specs.Float.Ieee.Fits.{and_i, and_l, and_r, eq→eqb}
use Rattle.std.specs.Float.Ieee.Scale.{finite}
use Rattle.std.specs.Float.Ieee.Positive.{num, den, den_pos, positive, positive-finite, between}
use Rattle.algebra.specs.Ring.{con, ◌:*◌, ◌≈◌, ◌⊩◌, ◌times◌≼◌}
use Rattle.algebra.proofs.Ring.{ring}
use Rattle.scaling.specs.Units.{Is, lt_units, eq_units}
use Rattle.scaling.specs.Kind.{Kind, In, last}
use Rattle.scaling.specs.One.{sign, lit_n, lit_ok}

-- ---- from a to b, two floats that are written out: as a kind, of the weight u
abbrev pub between_k : Format → Float → Float → ℕ → Kind
between_k f a b u = record { any = false; zer = false; lo = lit_n f a; hi = lit_n f b; g = last f (lit_n f a); u = u; d = 0 }

abbrev pub Between : Format → Float → Float → Float → Type 0
Between f a b x = T (fits f x) × T (le a x) × T (le x b)

-- a and b are above zero and fit
abbrev pub ends_ok : Format → Float → Float → Bool
ends_ok f a b = positive a && positive b && (lit_ok f a && lit_ok f b)
