-- `ended` meets its contract. Assumes nothing.
use Rattle.claim.specs.Rows.{ended_at}
use Rattle.claim.proofs.rows.ended.Goals as goal

pub returns-then-left : goal.returns-then-left
unfolding ended_at
returns-then-left c =
    rw c.if-left.true c.missing.ensures

pub returns : goal.returns
unfolding ended_at
returns c =
    rw c.if-left.false
