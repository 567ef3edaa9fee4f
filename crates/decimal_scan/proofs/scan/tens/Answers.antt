-- `tens` meets its contract: a power too large to be multiplied is too large. Assumes nothing.
use Prim.Native.Nat.{ℕ, ◌+◌, ◌*◌, ◌≤◌, ◌<◌}
use mathlib.Core.Path.{◌≡◌, subst}
use mathlib.Core.Bool.{Bool, true, false}
use native.Mathlib.Omega.{arith}
use borrow.Author.Tests.{le-leb, lt-leb}
use lib.Dec.{leb}
use Rattle.decimal_scan.specs.Scan.{most_tens, tens_after}
use Rattle.decimal_scan.proofs.scan.tens.Goals as goal

most-is : (below : Bool) → most_tens below < 2147483649
unfolding most_tens
most-is true = omega arith
most-is false = omega arith

over : (below : Bool) (tens d : ℕ) → 214748365 ≤ tens → leb (tens * 10 + d) (most_tens below) ≡ false
over below tens d h = lt-leb (tens * 10 + d) (most_tens below) (omega (arith, most-is below))

within : (below : Bool) (m x : ℕ) → m ≡ most_tens below → x ≤ m → leb x (most_tens below) ≡ true
within below m x e h = le-leb x (most_tens below) (subst (λ (z : ℕ). x ≤ z) e h)

beyond : (below : Bool) (m x : ℕ) → m ≡ most_tens below → m < x → leb x (most_tens below) ≡ false
beyond below m x e h = lt-leb x (most_tens below) (subst (λ (z : ℕ). z < x) e h)

pub returns-then-next-most : goal.returns-then-next-most
unfolding tens_after
returns-then-next-most c =
    rw (within _ _ _ c.most.ensures c.if-next-most.true)

pub returns-then-power-lt214748365 : goal.returns-then-power-lt214748365
unfolding tens_after
returns-then-power-lt214748365 c =
    rw (beyond _ _ _ c.most.ensures c.if-next-most.false) c.at.ensures

pub returns : goal.returns
unfolding tens_after
returns c =
    rw (over _ _ _ c.if-power-lt214748365.false) c.at-2.ensures
