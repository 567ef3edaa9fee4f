-- `whole` meets its contract. Assumes nothing.
use Prim.Native.Nat.{ℕ, ◌*◌, ◌^◌, ◌<◌}
use mathlib.Core.Path.{sym, subst}
use native.Mathlib.Omega.{arith}
use borrow.Author.Rules.{rules}
use Rattle.decimal_text.specs.Shape.{whole_shape}
use Rattle.decimal_text.proofs.shape.whole.Goals as goal

pub returns : goal.returns
unfolding whole_shape
returns c =
    rw c.ten.ensures
