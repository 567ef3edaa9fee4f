-- `decrement` meets its contract: its tests are those of the definition, in its order. Assumes nothing.
use Rattle.std.proofs.Common.{◌≡◌, ℕ, ◌^◌, Bool, true, sym, ◌∙◌}
use Rattle.swing.specs.Period.{within}
use Rattle.swing.specs.Ranges.{From1}
use Rattle.swing.proofs.Ranges.{in_within}
use Rattle.decay.specs.Decrement.{decay_of}
use Rattle.decay.proofs.decrement.Goals as goal
use Rattle.decay.proofs.decrement.Goals.{else-in_range-via-then-in_range+else-in_range-2, else-in_range-via-else-in_range}

passed : (n : ℕ) (r : Bool) → r ≡ within n (2 ^ 53) → r ≡ true → From1 n (2 ^ 53)
passed n r e t = in_within n (2 ^ 53) (sym e ∙ t)

pub quotient-requires : goal.quotient-requires
quotient-requires c =
    record {
      a_bound = (passed _ _ c.in_range.ensures c.if-in_range.true).largest;
      b_bound = (passed _ _ c.in_range-then-in_range.ensures c.if-in_range-2.true).largest;
    }

pub returns-then-in_range-2 : goal.returns-then-in_range-2
unfolding decay_of
returns-then-in_range-2 c =
    rw (
      sym c.in_range.ensures ∙ c.if-in_range.true,
      sym c.in_range-then-in_range.ensures ∙ c.if-in_range-2.true,
      sym c.quotient.ensures,
      sym c.ln.ensures,
    )

pub returns-else-in_range : goal.returns-else-in_range
unfolding decay_of
returns-else-in_range c =
    elim c.else-in_range.branch [
      | else-in_range-via-then-in_range+else-in_range-2 w ↦
          rw (sym c.in_range.ensures ∙ w.if-in_range.true, sym w.in_range-then-in_range.ensures ∙ w.if-in_range-2.false)
      | else-in_range-via-else-in_range w ↦ rw (sym c.in_range.ensures ∙ w.if-in_range.false)
    ]
