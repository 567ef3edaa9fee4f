-- `add_jobs` meets its contract, by `Adding`. Assumes nothing.
use Rattle.std.proofs.Common.{ℕ, ◌≡◌, sym, ap, ◌∙◌, arith}
use Rattle.std.specs.Prelude.{Option, Some, None, Ok}
use Rattle.packed.specs.Reading.{read_at}
use Rattle.packed.specs.RestLaws.{bytes_all, found_later}
use Rattle.packed.specs.declared.read.Got.{Got}
use Rattle.report.proofs.Adding.{adding_begins, adding_more, adding_ended}
use Rattle.report.proofs.add_jobs.Goals as goal
use Rattle.report.proofs.add_jobs.Goals.{In-Ok-Some}

pub loop-got-init : goal.loop-got-init
loop-got-init c = adding_begins

-- a job was read at the place
read : (c : In-Ok-Some) → read_at c.args.list.now c.loop-got.place ≡ Ok (Some c.in-Ok-Some.got)
read c = sym c.read_job.ensures ∙ c.in-Ok-Some.is ∙ ap (λ (o : Option Got). Ok o) c.in-Ok-Some.field-0-is

pub loop-got-smaller : goal.loop-got-smaller
loop-got-smaller c =
    let l = c.args.list.now in
    omega (
      arith,
      found_later l c.loop-got.place c.in-Ok-Some.got (bytes_all l (λ k. omega (arith, c.type_inv.list k)))
          (read (goal.at.loop-got-smaller c).In-Ok-Some),
    )

pub loop-got-preserved : goal.loop-got-preserved
loop-got-preserved c =
    adding_more c.loop-got.invariant (bytes_all c.args.list.now (λ k. omega (arith, c.type_inv.list k)))
    (read (goal.at.loop-got-preserved c).In-Ok-Some)
    c.add_job.ensures (omega arith)

pub returns-in_default : goal.returns-in_default
returns-in_default c =
    let z : c.in_default.field-0 ≡ None = cc in
    adding_ended c.loop-got.invariant _ (sym c.read_job.ensures ∙ c.in_default.is ∙ ap (λ (o : Option Got). Ok o) z)
    (λ got e. let y : ◌≡◌ {A = ℕ} 0 1 = cc in omega arith)

pub returns-in_default-2 : goal.returns-in_default-2
returns-in_default-2 c =
    adding_ended c.loop-got.invariant _ (sym c.read_job.ensures ∙ c.in_default.is)
    (λ got e. let y : ◌≡◌ {A = ℕ} 0 1 = cc in omega arith)
