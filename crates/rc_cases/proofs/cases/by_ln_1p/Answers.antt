-- `by_ln_1p` meets its contract, step by step as its definition. Assumes nothing.
use mathlib.Core.Path.{sym}
use Rattle.rc_cases.specs.Cases.{rc_by_ln1p}
use Rattle.rc_cases.proofs.cases.by_ln_1p.Goals as goal

pub returns : goal.returns
unfolding rc_by_ln1p
returns c =
    rw (sym c.sqrt.ensures, sym c.ln_1p_apart.ensures, sym c.sqrt-2.ensures)
