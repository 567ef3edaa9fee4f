-- `abs` meets its contract, by `Sign`. Assumes nothing.
use Prim.Native.Nat.{◌%◌, ◌^◌, ◌≤◌}
use mathlib.Core.Path.{sym, ap, ◌∙◌, subst}
use native.Mathlib.Omega.{arith}
use lib.Dec.{T}
use lib.Ieee.{binary64, fits, to_bits}
use Rattle.rounding.specs.Cut.{infinity}
use Rattle.binary64.specs.Leaves.{absolute}
use Rattle.binary64.specs.Tests.{differs_nan, same_no_nan, not_nan, bits_number, number_bits}
use Rattle.binary64.proofs.Sign.{sign_cleared}
use Rattle.binary64.proofs.size.abs.Goals as goal
use Rattle.binary64.proofs.size.abs.Goals.{Start}

-- what owning an f64 tells: the format holds it
held : (c : Start) → T (fits binary64 c.args.x)
held c = subst T (sym c.well_formed.0.1) tt

pub returns-then-x : goal.returns-then-x
unfolding absolute
returns-then-x c =
    let e = differs_nan _ c.if-x.true in e ∙ sym (ap absolute e)

pub float_to_bits-result : goal.float_to_bits-result
float_to_bits-result c =
    not_nan _ (same_no_nan _ c.if-x.false)

pub float_from_bits-result : goal.float_from_bits-result
float_from_bits-result c =
    let b = to_bits binary64 c.args.x in
    let h : b % 2 ^ 63 ≤ infinity = number_bits c.args.x (held (goal.at.float_from_bits-result c).Start) (same_no_nan _ c.if-x.false) in
    bits_number (b % 2 ^ 63) (omega arith)

pub returns : goal.returns
returns c =
    sign_cleared c.args.x (held (goal.at.returns c).Start)
