-- Comparisons of two floats of one weight, and a test for zero, say the same in both runs. A float whose weight is nothing is the
-- same float in both.
use Rattle.std.specs.Prelude.{◌≡◌, refl, ℕ, ◌*◌, ◌^◌, Bool, true, false, not, pos, T, Float}
use Rattle.std.proofs.Common.{sym, ap, ◌∙◌, subst, inl, inr, zero-mul, T_not, pow_pos}
use Rattle.std.proofs.Math.Path.{ap₂}
use Rattle.std.proofs.Math.Nat.{eq_of_mul-eq-mul_right}
use Rattle.std.proofs.Math.Bool.{◌||◌}
use Rattle.std.specs.Float.{fin, Format}
use Rattle.std.specs.Float.Ieee.{low, eq, le, level, fits, of_bits}
use Rattle.binary64.specs.Operators.{bits}
use Rattle.scaling.specs.Cross.{level_cross}
use Rattle.scaling.specs.Units.{Is, unique, eq_units}
use Rattle.scaling.specs.Kind.{Kind, In, level?}
use Rattle.scaling.specs.Two.{Two}

-- +0, as the code's constant is
abbrev pub zero : Float
zero = bits 0
