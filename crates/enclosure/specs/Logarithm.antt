-- The rule for T(s) is near every enclosure, from a seed: s in parts of 2 ^ -(62 + j), 3 too low or 1 too high at most. In
-- these parts: the square is 26 parts of 2 ^ -64 too low or 9 too high at most, so the sum loses 6 + 2 * 26 parts of 2 ^ -63
-- and gains 2 * 9; what the series leaves out after 44 terms is 2 at most. Assumes nothing.
use Rattle.std.specs.Prelude.{ℕ, ◌+◌, ◌-◌, ◌*◌, ◌/◌, ◌^◌, ◌≤◌, ◌<◌, ◌≡◌, [], ◌∷◌}
use Rattle.std.proofs.Common.{sym, ◌∙◌, ap, div-mul-le_self, mul-pos, le_of_eq, arith, leb→le, pow_pos, pow-add}
use Rattle.std.proofs.Math.Nat.{le_of_mul-le-mul_right, lt-div-mul-add, pow-le-pow_right}
use Rattle.algebra.specs.Ring.{con, nxt, ◌:+◌, ◌:*◌, ◌≈◌, ◌⊩◌, ◌times◌≼◌, Order}
use Rattle.algebra.proofs.Ring.{by_below}
use Rattle.enclosure.specs.Quotient.{Quotient, ◌≼◌, over, parts, ◌⊞◌, ◌⊠◌}
use Rattle.enclosure.specs.Order.{≼_refl, ≼_trans, ⊞-mono, ⊠-mono}
use Rattle.enclosure.specs.Enclosure.{odd_power, T-term, T-factor, T-lower, T-upper, Within}
use Rattle.enclosure.specs.Expansion.{power, Enough}
use Rattle.enclosure.specs.Pieces.{odd, terms, value}
use Rattle.enclosure.specs.Rules.{seed_square, T-answer}
use Rattle.enclosure.specs.Values.{partial, Near}

-- s is from sg - 1 to sg + 3 parts, and at most 3/5
pub record Seed (s : Quotient) (j sg : ℕ) : Type 0 where
  pub low : sg * s.den ≤ s.num * 2 ^ (62 + j) + s.den
  pub high : s.num * 2 ^ (62 + j) ≤ (sg + 3) * s.den
  pub fits : sg ≤ 2 ^ 62
  pub small : 5 * s.num ≤ 3 * s.den
