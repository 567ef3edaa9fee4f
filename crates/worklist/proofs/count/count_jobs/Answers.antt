-- `count_jobs` meets its contract, by `CountSteps`. Assumes nothing.
use Rattle.std.proofs.Common.{◌≡◌, sym, ap, ◌∙◌, arith}
use Rattle.std.specs.Prelude.{Option, Some, Ok}
use Rattle.std.proofs.lemmas.Result.{err_from_is_err_and}
use Rattle.packed.specs.Reading.{read_at}
use Rattle.packed.specs.RestLaws.{bytes_all, found_later}
use Rattle.packed.specs.declared.read.Got.{Got}
use Rattle.worklist.proofs.CountSteps.{counting_begins, counting_more, counting_refused, counting_ended}
use Rattle.worklist.proofs.count.count_jobs.Goals as goal
use Rattle.worklist.proofs.count.count_jobs.Goals.{In-Some}

-- a job was read at the place
read : (c : In-Some) → read_at c.args.list.now c.loop-got.place ≡ Ok (Some c.in-Some.got)
read c = sym c.in_ok-got.ensures ∙ ap (λ (o : Option Got). Ok o) c.in-Some.is

pub loop-got-init : goal.loop-got-init
loop-got-init c = counting_begins

pub returns-in_err-got : goal.returns-in_err-got
returns-in_err-got c =
    let p = err_from_is_err_and c.from_residual.result c.from_residual.ensures.1 in
    rw (p.1, p.2) (counting_refused c.loop-got.invariant (sym c.in_err-got.ensures))

pub loop-got-smaller : goal.loop-got-smaller
loop-got-smaller c =
    let l = c.args.list.now in
    omega (arith, found_later l c.loop-got.place c.in-Some.got (bytes_all l (λ k. omega (arith, c.type_inv.list k))) (read c))

pub loop-got-preserved : goal.loop-got-preserved
loop-got-preserved c =
    counting_more c.loop-got.invariant (bytes_all c.args.list.now (λ k. omega (arith, c.type_inv.list k))) (read c)

pub returns : goal.returns
returns c = counting_ended c.loop-got.invariant _ (sym c.in_ok-got.ensures) c.in_default.not-Some
