-- `by_atan` meets its contract, step by step as its definition. Assumes nothing.
use mathlib.Core.Path.{sym}
use Rattle.rc_cases.specs.Cases.{rc_by_atan}
use Rattle.rc_cases.proofs.cases.by_atan.Goals as goal

pub returns : goal.returns
unfolding rc_by_atan
returns c =
    let r = c.both_roots-r.ensures in
    rw (sym r.0, sym c.atan_ahead.ensures, sym r.1)
