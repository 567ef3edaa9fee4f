-- One byte more is held, or lost, and as many can be held as before.
use Rattle.std.proofs.Common.{◌≤◌, arith, length}
use Rattle.writing.specs.Written.{pushed_most}
use Rattle.rows.proofs.scan.Goals as goal

pub loop-at-preserved : goal.loop-at-preserved
loop-at-preserved c =
    let h : c.push-row.result ≤ length c.loop-at.held = pushed_most _ _ _ c.loop-at.invariant c.push-row.ensures.1 in
    omega arith
