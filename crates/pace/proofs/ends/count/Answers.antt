-- `count` meets its contract. Assumes nothing.
use Prim.Native.Nat.{ℕ, ◌+◌, ◌≤◌, ◌<◌}
use mathlib.Core.Path.{◌≡◌}
use mathlib.Core.List.{List}
use native.Mathlib.Omega.{arith}
use lib.ListN.{length, drop, get_or, drop_of_length-le}
use Rattle.pace.specs.Numbers.{ends_of, newlines}
use Rattle.pace.specs.NumberLaws.{ends_most, newlines_next}
use Rattle.pace.proofs.ends.count.Goals as goal

-- a byte more
more : (l : List ℕ) (n i r : ℕ) → i < length l → n + newlines (drop i l) ≡ newlines l → r ≡ ends_of (get_or l i 0)
    → (n + r) + newlines (drop (i + 1) l) ≡ newlines l
more l n i r h e f = omega (arith, e, f, newlines_next l i h)

none : (l : List ℕ) (n i : ℕ) → length l ≤ i → n + newlines (drop i l) ≡ newlines l → n ≡ newlines l
unfolding newlines
none l n i h e = omega (arith, rw (drop_of_length-le l {i = i} h) at e)

pub overflow_add-lines : goal.overflow_add-lines
overflow_add-lines c = record {
  fits = omega (
    arith,
    c.loop-byte.invariant.few,
    c.requires,
    ends_most
        (get_or c.args.part.now c.loop-byte.byte-index 0),
    c.ending-lines.ensures,
  );
}

pub loop-byte-preserved : goal.loop-byte-preserved
loop-byte-preserved c = record {
  few = omega (arith, c.loop-byte.invariant.few, ends_most (get_or c.args.part.now c.loop-byte.byte-index 0), c.ending-lines.ensures);
  all = more c.args.part.now _ _ _ c.loop-byte-test.true c.loop-byte.invariant.all c.ending-lines.ensures;
}

pub returns : goal.returns
returns c = none _ _ _ c.loop-byte-test.false c.loop-byte.invariant.all
