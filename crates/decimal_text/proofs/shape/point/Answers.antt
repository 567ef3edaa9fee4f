-- `point` meets its contract: a power from 10 ^ 17 on does not go into d. Assumes nothing.
use Prim.Native.Nat.{ℕ, ◌<◌}
use mathlib.Core.Path.{sym, subst}
use native.Mathlib.Omega.{arith}
use Rattle.decimal_short.proofs.Within.{ten_pos}
use Rattle.decimal_text.specs.Shape.{point_shape}
use Rattle.decimal_text.specs.Bounds.{none_whole, all_part}
use Rattle.decimal_text.proofs.shape.point.Goals as goal

pub returns-then-k-ge17 : goal.returns-then-k-ge17
unfolding point_shape
returns-then-k-ge17 c =
    let a = c.args in
    rw (none_whole a.d a.k c.requires c.if-k-ge17.true, all_part a.d a.k c.requires c.if-k-ge17.true)

pub nonzero_div-result : goal.nonzero_div-result
nonzero_div-result c =
    subst (λ (p : ℕ). 0 < p) (sym c.ten-p.ensures) (ten_pos c.args.k)

pub nonzero_rem-result : goal.nonzero_rem-result
nonzero_rem-result c =
    subst (λ (p : ℕ). 0 < p) (sym c.ten-p.ensures) (ten_pos c.args.k)

pub returns : goal.returns
unfolding point_shape
returns c =
    rw c.ten-p.ensures
