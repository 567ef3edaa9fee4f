-- `top` meets its contract, by `Normal`. Assumes nothing.
use borrow.Author.Rules.{rules}
use native.Mathlib.Omega.{arith}
use Prim.Native.Nat.{◌%◌}
use mathlib.Core.Path.{◌≡◌}
use lib.Count.{count_leading_zeros}
use Rattle.nearest.specs.Shift.{left_fits, left_jam}
use Rattle.nearest.specs.Normal.{Normal, normal, zeros_le, low_digits, top_low, top_high}
use Rattle.nearest.proofs.wide.top.Goals as goal
use Rattle.nearest.proofs.wide.top.Goals.{Else-w-eq0}

-- the high word is not 0
high : (c : Else-w-eq0) → Normal c.args.w.hi (count_leading_zeros 64 c.args.w.hi)
high c = normal c.args.w.hi (omega arith) (omega arith)

pub returns-then-w-eq0 : goal.returns-then-w-eq0
returns-then-w-eq0 c =
    λ n.
    let w = c.args.w in
    let z = count_leading_zeros 64 w.lo in
    let low = normal w.lo (low_digits w.hi w.lo n (omega arith)) (omega arith) in
    let e : z % 64 ≡ z = omega (arith, low.less) in
    rw e (top_low w.hi w.lo z low (omega arith) (omega arith))

pub overflow_add-v : goal.overflow_add-v
overflow_add-v c =
    let w = c.args.w in
    record { fits = left_fits (count_leading_zeros 64 w.hi) (high (goal.at.overflow_add-v c).Else-w-eq0).less w.hi w.lo (high (goal.at.overflow_add-v c).Else-w-eq0).under (omega arith) }

pub returns : goal.returns
returns c =
    λ n.
    let w = c.args.w in
    let z = count_leading_zeros 64 w.hi in
    top_high w.hi w.lo z c.sticky.result (high (goal.at.returns c).Else-w-eq0)
    (left_jam z (high (goal.at.returns c).Else-w-eq0).less w.hi w.lo (high (goal.at.returns c).Else-w-eq0).under c.sticky.result c.sticky.ensures)
