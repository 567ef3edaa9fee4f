-- Which arguments reach each branch of RC(1, 1 + y) (document 02, 2026-08): the tests that lead to it hold of those and of no
-- others. Past the first test there is no zero; RJ meets the last branch at -1/2 and NaN alone. Assumes nothing.
use Rattle.std.specs.Prelude.{◌≡◌, ℕ, zero as none, suc, ◌+◌, ◌*◌, ◌%◌, ◌^◌, ◌<◌, ◌≤◌, Bool, true, false, cond, not, ◌&&◌, ◌||◌, T, ltb, ◌⊎◌, ℤ, pos, negsuc, ◌==◌, ◌≢◌, nat_eq, nat_le, nat_lt, Float}
use Rattle.std.proofs.Math.Path.{refl}
use Rattle.std.proofs.Common.{sym, ap, ◌∙◌, subst, inl, inr, eq-or-lt_of_le, pow-suc, arith, lt-ltb, le-ltb, eq-eqb, ne_eqb, ltb→lt, lt→ltb, nltb→le, eqb→eq}
use Rattle.std.specs.Bool.{beq}
use Rattle.std.proofs.Math.Bool.{and_comm, and-false}
use Rattle.std.proofs.Math.Dec.{not_T}
use Rattle.std.specs.Float.{nan, inf, fin, binary64}
use Rattle.std.specs.Float.Ieee.{up, down, neg, add, div, lt, le, eq, fits, of_bits}
use Rattle.std.specs.Float.Ieee.Fits.{and_l, and_r, down_pos}
use Rattle.std.specs.Float.Ieee.Bits.{is_false}
use Rattle.algebra.specs.Order.{lt_or_le}
use Rattle.rounding.specs.Cut.{value, rounded}
use Rattle.binary64.specs.Leaves.{absolute}
use Rattle.root.specs.Root.{root}
use Rattle.polynomial.specs.Polynomial.{horner}
use Rattle.carlson.specs.Constants.{zero, one, two, half}
use Rattle.carlson.specs.Answer.{closed_at}
use Rattle.carlson.specs.declared.answer.Found.{Found}
use Rattle.rj_term.specs.Helper.{hundredth, three_halves, Outside, AtHalf, ln_argument}
use Rattle.rj_term.specs.Helper.{by_atan1p, by_logs1p, by_rc1p, by_ln1p, rc1p}

-- ---- the tests that lead to a branch, in the order of `rc1p`
abbrev pub past : Float → Bool
past y = not (le (absolute y) hundredth)

abbrev pub to_atan : Float → Bool
to_atan y = past y && lt zero y

abbrev pub to_logs : Float → Bool
to_logs y = past y && (not (lt zero y) && lt (neg half) y)

abbrev pub to_rc : Float → Bool
to_rc y = past y && (not (lt zero y) && (not (lt (neg half) y) && lt y (neg one)))

abbrev pub to_ln : Float → Bool
to_ln y = past y && (not (lt zero y) && (not (lt (neg half) y) && not (lt y (neg one))))
