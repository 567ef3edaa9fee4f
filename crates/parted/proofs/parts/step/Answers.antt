-- `step` meets its contract, step by step as its definition. Assumes nothing.
use Rattle.std.proofs.Common.{le-ltb, lt-ltb, eq-eqb, ne_eqb}
use Rattle.parted.specs.Parts.{step_of}
use Rattle.parted.proofs.parts.step.Goals as goal

pub returns-then-p-lt2 : goal.returns-then-p-lt2
unfolding step_of
returns-then-p-lt2 c =
    rw (lt-ltb _ _ c.if-p-lt2.true)

pub returns-then-p-eq2 : goal.returns-then-p-eq2
unfolding step_of
returns-then-p-eq2 c =
    rw (le-ltb _ _ c.if-p-lt2.false, eq-eqb _ _ c.if-p-eq2.true)

pub returns : goal.returns
unfolding step_of
returns c =
    rw (le-ltb _ _ c.if-p-lt2.false, ne_eqb _ _ c.if-p-eq2.false)
