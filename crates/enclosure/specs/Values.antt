-- `value` is near the exact partial sum: 6 parts of 2 ^ -63 too low at most where its argument is exact, and 2 more for each
-- part of 2 ^ -64 that the argument is off. Assumes nothing.
use Rattle.std.specs.Prelude.{ℕ, zero, suc, ◌+◌, ◌*◌, ◌%◌, ◌^◌, ◌≤◌, ◌<◌, ◌≡◌, List, [], ◌∷◌, length}
use Rattle.std.proofs.Common.{sym, ◌∙◌, ap, mul-pos, mul-le-mul, mod-lt, div-add-mod', le_of_eq, le_of_lt, arith, pow_pos}
use Rattle.std.proofs.Math.Nat.{le_of_mul-le-mul_right, one-le-pow}
use Rattle.std.proofs.Math.Dec.{leb→le}
use Rattle.algebra.specs.Ring.{con, ◌:+◌, ◌:*◌, ◌≈◌, ◌⊩◌, ◌times◌≼◌, Order}
use Rattle.algebra.proofs.Ring.{by_below}
use Rattle.enclosure.specs.Quotient.{Quotient, ◌≼◌, whole, parts, ◌⊞◌}
use Rattle.enclosure.specs.Order.{≼_refl, ≼_trans, ⊞-mono}
use Rattle.enclosure.specs.Pieces.{
  Series,
  euler,
  odd,
  terms,
  pieces,
  denominator,
  row_length,
  row_denominator,
  numerators,
  shifted,
  row,
  piece,
  value,
}
use Rattle.enclosure.specs.Expansion.{coefficient, exact}
use Rattle.enclosure.specs.Shifted.{evaluate}
use Rattle.enclosure.specs.Floors.{left_out}
use Rattle.enclosure.specs.Slope.{half}

-- ---- the exact partial sum
abbrev pub partial : Series → Quotient → Quotient
partial s z = exact (coefficient s) z (terms s) 0

-- ---- x is z in parts of 2 ^ -64, `al` too high at most or `be` too low, and z is 1/2 at most
pub record Near (s : Series) (z : Quotient) (x al be : ℕ) : Type 0 where
  pub low : x * z.den ≤ z.num * 2 ^ 64 + al * z.den
  pub high : z.num * 2 ^ 64 ≤ (x + be) * z.den
  pub half : 2 * z.num ≤ z.den
  pub fits : x ≤ 2 ^ 63
  pub inside : piece x < pieces s
