-- `by_ln` meets its contract, step by step as its definition. Assumes nothing.
use mathlib.Core.Path.{sym}
use Rattle.rc_cases.specs.Cases.{rc_by_ln}
use Rattle.rc_cases.proofs.cases.by_ln.Goals as goal

pub returns : goal.returns
unfolding rc_by_ln
returns c =
    let r = c.all_roots-r.ensures in
    rw (sym r.0, sym r.1.0, sym r.1.1, sym c.ln_large.ensures)
