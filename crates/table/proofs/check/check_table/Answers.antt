-- `check_table` meets its contract. The invariant: what is left of the list and of the words, with what is known so far, gives
-- what all of them give. Assumes nothing.
use Rattle.std.specs.Prelude.{Option, Ok}
use Rattle.packed.specs.declared.read.Got.{Got}
use mathlib.Core.Path.{sym, ap, ◌∙◌}
use native.Mathlib.Omega.{arith}
use Rattle.packed_number.specs.NumberLaws.{Bytes}
use Rattle.packed.specs.ListLaws.{nothing_left}
use Rattle.packed.specs.RestLaws.{bytes_all, found_later}
use Rattle.table.proofs.Rest.{standing_begins, standing_more, standing_refused, standing_ended}
use Rattle.table.proofs.check.check_table.Goals as goal
use Rattle.table.proofs.check.check_table.Goals.{At-loop-place}

-- the list's bytes are bytes
good : (c : At-loop-place) → Bytes c.args.list.now
good c =
    bytes_all c.args.list.now (λ k. omega (arith, c.type_inv.list k))

pub loop-place-init : goal.loop-place-init
loop-place-init c =
    standing_begins

pub returns-in-Ok-None : goal.returns-in-Ok-None
returns-in-Ok-None c =
    absurd (omega (
      arith,
      c.loop-place-test.true,
      nothing_left _ _
          (sym c.read_job.ensures ∙ c.in-Ok-None.is ∙ ap (λ (o : Option Got). Ok o) c.in-Ok-None.field-0-is),
    ))

pub returns-in-Err : goal.returns-in-Err
returns-in-Err c =
    standing_refused c.loop-place.invariant (sym c.read_job.ensures ∙ c.in-Err.is)

pub overflow_add-row : goal.overflow_add-row
overflow_add-row c =
    omega (
      arith,
      c.loop-place.invariant.few,
      found_later _ c.loop-place.place c.in-Ok-Some.got (good (goal.at.overflow_add-row c).At-loop-place)
          (sym c.read_job.ensures ∙ c.in-Ok-Some.is ∙ ap (λ (o : Option Got). Ok o) c.in-Ok-Some.field-0-is),
    )

pub loop-place-smaller : goal.loop-place-smaller
loop-place-smaller c =
    omega (
      arith,
      found_later _ c.loop-place.place c.in-Ok-Some.got (good (goal.at.loop-place-smaller c).At-loop-place)
          (sym c.read_job.ensures ∙ c.in-Ok-Some.is ∙ ap (λ (o : Option Got). Ok o) c.in-Ok-Some.field-0-is),
    )

pub loop-place-preserved : goal.loop-place-preserved
loop-place-preserved c =
    rw (c.row_more-so.ensures, c.words_after-at.ensures)
    (standing_more c.loop-place.invariant (good (goal.at.loop-place-preserved c).At-loop-place)
    (sym c.read_job.ensures ∙ c.in-Ok-Some.is ∙ ap (λ (o : Option Got). Ok o) c.in-Ok-Some.field-0-is))

pub returns : goal.returns
returns c =
    c.ended.ensures ∙ standing_ended c.loop-place.invariant c.loop-place-test.false
