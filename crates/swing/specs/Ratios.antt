-- Between which powers of two the quotients of the whole numbers lie, and four times the root of L/g. Assumes nothing.
use Rattle.std.specs.Prelude.{ℕ, ◌-◌, ◌*◌, ◌^◌, ◌≤◌, ◌<◌, ◌≡◌, [], ◌∷◌, T, leb, Float}
use Rattle.std.proofs.Common.{sym, ◌∙◌, subst, le_of_lt, le_trans, mul-pos, arith, leb→le}
use Rattle.std.proofs.Math.Bool.{false}
use Rattle.std.proofs.Math.Pow.{pow_pos}
use Rattle.std.specs.Float.{nan, inf, fin}
use Rattle.std.specs.Float.Ieee.{binary64, up, down, round, of_int}
use Rattle.std.specs.Float.Ieee.Back.{round_whole}
use Rattle.std.specs.Float.Ieee.Exact.{HasValue}
use Rattle.std.specs.Float.Ieee.Scale.{round_same}
use Rattle.algebra.specs.Ring.{con, nxt, ◌:*◌, ◌≈◌, ◌⊩◌, ◌times◌≼◌}
use Rattle.algebra.proofs.Ring.{ring, below}
use Rattle.rounding.specs.Cut.{value}
use Rattle.swing.specs.Period.{whole, ratio, four_roots, times}
use Rattle.swing.specs.Ranges.{From1}
use Rattle.between.specs.Between.{Between}
use Rattle.between.proofs.Between.{div_is, form_of, fraction_between, product_between, root_between, constant}

-- the pattern of a power of two, by its exponent's field: 1023 is that of 1
abbrev pub power : ℕ → ℕ
power e = e * 2 ^ 52

-- (2L-h)/(2L) lies from 2 ^ -25 to 1 - 2 ^ -25, so it is neither 0 nor 1
abbrev pub below_one : ℕ
below_one = 1023 * 2 ^ 52 - 2 ^ 28
