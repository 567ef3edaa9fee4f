-- `steps` meets its contract: its tests are those of the definition, in its order. Assumes nothing.
use Rattle.elliprd.specs.Rd.{rd_steps}
use Rattle.elliprd.proofs.steps.Goals as goal

pub returns-then-x-z : goal.returns-then-x-z
unfolding rd_steps
returns-then-x-z c =
    rw c.if-x-z.true c.ordered-a.ensures

pub returns : goal.returns
unfolding rd_steps
returns c =
    rw c.if-x-z.false c.ordered-a-2.ensures
