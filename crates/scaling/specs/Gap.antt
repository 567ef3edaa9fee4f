-- Two floats that differ do so by a part in 2 ^ (prec + 1) of the larger at least: what lies between them is a multiple of the
-- smaller's last place. So a quotient like (x - y) / x, which bounds alone would let be tiny, is never so; and a lower bound from
-- elsewhere enters a kind.
use Rattle.std.specs.Prelude.{◌≡◌, ℕ, ◌+◌, ◌-◌, ◌*◌, ◌^◌, ◌≤◌, ◌<◌, [], ◌∷◌, Float}
use Rattle.std.proofs.Common.{sym, ap, ap₂, ◌∙◌, inl, inr, le_trans, le_of_eq, le_of_lt, mul-one, one-mul, mul-le-mul_right, mul-le-mul_left, zero-lt-suc, arith, pow-add, pow_mono}
use Rattle.std.proofs.Math.Pow.{pow-lt}
use Rattle.std.specs.Float.{Format}
use Rattle.std.specs.Float.Ieee.{prec, low, size}
use Rattle.std.specs.Float.Ieee.Digits.{size-lt, size_reaches}
use Rattle.algebra.specs.Ring.{con, ◌:*◌, ◌≈◌, ◌⊩◌, ◌times◌≼◌}
use Rattle.algebra.proofs.Ring.{below, ring}
use Rattle.scaling.specs.Near.{near, digits, near_mono, near_exact, either, size_above}
use Rattle.scaling.specs.Cross.{sub_mul}
use Rattle.scaling.specs.Kind.{Kind, last}
use Rattle.scaling.specs.Last.{Digits, Multiple}
use Rattle.scaling.specs.Two.{Two}

-- ---- a lower bound from elsewhere
unfoldable pub raise_k : ℕ → Kind → Kind
raise_k l A = record { any = A.any; zer = A.zer; lo = l; hi = A.hi; g = A.g; u = A.u; d = A.d }
