-- `power` meets its contract. Assumes nothing.
use Prim.Native.Nat.{ℕ, ◌<◌}
use mathlib.Core.Path.{sym, subst}
use borrow.Author.Rules.{rules}
use Rattle.decimal_short.proofs.Within.{ten_pos}
use Rattle.decimal_text.specs.Shape.{power_shape}
use Rattle.decimal_text.proofs.shape.power.Goals as goal

pub nonzero_div-result : goal.nonzero_div-result
nonzero_div-result c =
    subst (λ (p : ℕ). 0 < p) (sym c.ten-p.ensures) (ten_pos c.args.k)

pub nonzero_rem-result : goal.nonzero_rem-result
nonzero_rem-result c =
    subst (λ (p : ℕ). 0 < p) (sym c.ten-p.ensures) (ten_pos c.args.k)

pub returns : goal.returns
unfolding power_shape
returns c =
    rw (c.ten-p.ensures, c.apart.ensures)
