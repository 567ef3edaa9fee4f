-- The rule for atan is near every enclosure, for any t ≤ 2 ^ -j of which tau is the whole number of parts of 2 ^ -(62 + j),
-- rounded down.
-- In these parts: the share is at most 5 too low, so the front is at most 2 too low and 5 too high; the sum's value loses 6 and
-- 2 * 20 parts of 2 ^ -63 at most; what Euler's series leaves out after 64 terms is 1 at most. Assumes nothing.
use Rattle.std.specs.Prelude.{ℕ, ◌+◌, ◌-◌, ◌*◌, ◌/◌, ◌^◌, ◌≤◌, ◌<◌, ◌≡◌, [], ◌∷◌}
use Rattle.std.proofs.Common.{sym, ◌∙◌, ap, le_of_mul-le-mul_right, div-mul-le_self, mul-le-mul, le_of_eq, arith, leb→le, pow_pos, pow-add}
use Rattle.std.proofs.Math.Nat.{lt-div-mul-add, div-le_of_le-mul, pow-le-pow_right}
use Rattle.algebra.specs.Ring.{con, nxt, ◌:+◌, ◌:*◌, ◌≈◌, ◌⊩◌, ◌times◌≼◌, Order}
use Rattle.algebra.proofs.Ring.{by_below}
use Rattle.enclosure.specs.Quotient.{Quotient, ◌≼◌, parts, ◌⊞◌, ◌⊠◌}
use Rattle.enclosure.specs.Order.{≼_refl, ≼_trans, ⊞-mono, ⊠-mono}
use Rattle.enclosure.specs.Enclosure.{one_and_square, euler_start, euler_ratio, euler_term, atan_lower, atan_upper, Within}
use Rattle.enclosure.specs.Expansion.{power, Enough}
use Rattle.enclosure.specs.Pieces.{euler, terms, value}
use Rattle.enclosure.specs.Rules.{square, share, front, atan_answer}
use Rattle.enclosure.specs.Slope.{half}
use Rattle.enclosure.specs.Values.{partial, Near}

-- tau is t in parts of 2 ^ -(62 + j), rounded down, and t is at most 2 ^ -j
pub record Floor (t : Quotient) (j tau : ℕ) : Type 0 where
  pub low : tau * t.den ≤ t.num * 2 ^ (62 + j)
  pub high : t.num * 2 ^ (62 + j) < tau * t.den + t.den
  pub one : t.num * 2 ^ (62 + j) ≤ 2 ^ 62 * t.den
