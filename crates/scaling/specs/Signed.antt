-- The larger of two floats of either sign, and the smaller: each run takes the same one. The part above zero of either is no more
-- than the larger's.
use Rattle.std.specs.Prelude.{◌≡◌, ℕ, ◌+◌, ◌≤◌, Bool, true, false, not, T, Float}
use Rattle.std.proofs.Common.{sym, ◌∙◌, subst, subst₂, zero-le, le_refl, le_of_lt, arith, ltb→lt, nltb→le}
use Rattle.std.proofs.Math.Path.{ap}
use Rattle.std.proofs.Math.Bool.{cond}
use Rattle.std.specs.Float.{Format}
use Rattle.std.specs.Float.Ieee.{lt, below}
use Rattle.binary64.specs.Leaves.{maximum}
use Rattle.scaling.specs.Units.{Is, lt_units}
use Rattle.scaling.specs.Kind.{Kind, level?}
use Rattle.scaling.specs.Two.{Two}

-- the part above zero
abbrev pub above : Bool → ℕ → ℕ
above s n = cond s 0 n
