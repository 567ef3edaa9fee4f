-- `polynomial` meets its contract. That the table holds the rounded quotients is one computed test, the `refl` in
-- `loop-k-preserved`. Assumes nothing.
use native.Mathlib.Omega.{arith}
use Prim.Native.Nat.{ℕ, zero, suc, ◌-◌, ◌<◌}
use mathlib.Core.Path.{◌≡◌, refl, ◌∙◌}
use lib.Ieee.{Float, div, of_int, of_bits}
use Rattle.binary64.specs.Operators.{◌⊕◌, ◌⊗◌}
use Rattle.polynomial.specs.Polynomial.{coefficient, down, horner}
use Rattle.polynomial.proofs.Table.{from, entry}
use Rattle.polynomial.proofs.polynomial.Goals as goal

-- one step down
step : (y sum next : Float) (k : ℕ) → 0 < k → next ≡ coefficient (k - 1) → down y (k - 1) (sum ⊗ y ⊕ next) ≡ down y k sum
unfolding down
step y sum next zero h e = elim h [ ]
step y sum next (suc k) h e = let f : suc k - 1 ≡ k = omega arith in rw (e, f)

pub loop-k-init : goal.loop-k-init
unfolding horner coefficient div of_int of_bits
loop-k-init c =
    refl

pub loop-k-preserved : goal.loop-k-preserved
unfolding from coefficient div of_int of_bits
loop-k-preserved c =
    let l = c.loop-k in
    step c.args.y l.sum _ l.k c.loop-k-test.true (entry _ refl (l.k - 1) (omega arith)) ∙ l.invariant

pub returns : goal.returns
unfolding down
returns c =
    let l = c.loop-k in let e : l.k ≡ 0 = omega arith in rw e at l.invariant
