-- A float's sign, by the test against zero: it says the same in both runs, and what it says of the sign becomes part of the kind.
-- A float that is finite is no NaN and no infinity either, which an entry's first checks ask.
use Rattle.std.specs.Prelude.{◌≡◌, refl, ℕ, ◌+◌, ◌*◌, ◌^◌, ◌<◌, Bool, true, false, not, T, ltb, Float}
use Rattle.std.proofs.Common.{sym, ap, ◌∙◌, subst, zero-mul, arith, T_not, ltb→lt, lt→ltb, pow_pos}
use Rattle.std.specs.Float.{nan, inf, fin, Format}
use Rattle.std.specs.Float.Ieee.{lt, eq, neg, below, of_bits}
use Rattle.binary64.specs.Operators.{bits}
use Rattle.scaling.specs.Cross.{below_cross}
use Rattle.scaling.specs.Units.{Is, lt_units}
use Rattle.scaling.specs.Kind.{Kind}
use Rattle.scaling.specs.Tests.{zero}
use Rattle.scaling.specs.Two.{Two}

-- above zero: neither negative nor zero
abbrev pub above_k : Kind → Kind
above_k A = record { any = false; zer = false; lo = A.lo; hi = A.hi; g = A.g; u = A.u; d = A.d }
