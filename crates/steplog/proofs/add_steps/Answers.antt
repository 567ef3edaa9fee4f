-- `add_steps` meets its contract: it stores what `advance` answers. Assumes nothing.
use Rattle.std.proofs.Common.{sym}
use Rattle.std.proofs.lemmas.Result.{err_from_is_err_and}
use Rattle.steplog.specs.Steps.{kept_total, done_of}
use Rattle.steplog.proofs.add_steps.Goals as goal

pub returns-in_err-total : goal.returns-in_err-total
unfolding kept_total done_of
returns-in_err-total c =
    let e = sym c.in_err-total.ensures.value in
    let p = err_from_is_err_and c.from_residual.result c.from_residual.ensures.1 in
    record { value = rw (p.1, p.2, e); total_after = rw e }

pub returns : goal.returns
unfolding kept_total done_of
returns c =
    let e = sym c.in_ok-total.ensures.value in record { value = rw e; total_after = rw e }
