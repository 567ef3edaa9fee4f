-- `part` meets its contract: its tests are what `compare` says. Assumes nothing.
use Rattle.std.proofs.Common.{◌≡◌, ℕ, ◌*◌, ◌<◌, ◌≤◌, arith, eq-eqb, ne_eqb}
use Prim.Native.Nat.{compare, Ordering}
use Rattle.algebra.specs.Order.{lt_compare, eq_compare, gt_compare}
use Rattle.parted.specs.Parts.{side_of, part_of}
use Rattle.parted.proofs.parts.part.Goals as goal

nothing : (r d : ℕ) → r ≡ 0 → 0 ≡ part_of r d
unfolding part_of
nothing r d e = rw (eq-eqb r 0 e)

something : (r d : ℕ) (o : Ordering) → (r ≡ 0 → ⊥) → compare (r * 2) d ≡ o → side_of o ≡ part_of r d
unfolding part_of
something r d o e f = rw (ne_eqb r 0 e, f)

above : (r half : ℕ) → half ≤ r → (r ≡ half → ⊥) → half * 2 < r * 2
above r half h e = omega arith

pub returns-then-r-eq0 : goal.returns-then-r-eq0
returns-then-r-eq0 c =
    nothing _ _ c.if-r-eq0.true

pub returns-then-r-half : goal.returns-then-r-half
returns-then-r-half c =
    something _ _ Ordering.lt c.if-r-eq0.false (lt_compare _ _ (omega arith))

pub returns-then-r-half-2 : goal.returns-then-r-half-2
returns-then-r-half-2 c =
    something _ _ Ordering.eq c.if-r-eq0.false (eq_compare _ _ (omega arith))

pub returns : goal.returns
returns c =
    something _ _ Ordering.gt c.if-r-eq0.false
    (gt_compare _ _ (above _ _ c.if-r-half.false c.if-r-half-2.false))
