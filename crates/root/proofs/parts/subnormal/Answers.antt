-- `root::parts::subnormal` meets its contract, by `Scale`: n * 4 ^ y stays what it was. The measure is y. Assumes nothing.
use Rattle.std.proofs.Common.{◌≤◌, ◌∙◌, arith}
use Rattle.root.proofs.Scale.{step, not_yet, subnormal_is}
use Rattle.root.proofs.parts.subnormal.Goals as goal
use Rattle.root.proofs.parts.subnormal.Goals.{In-loop-n}

-- the loop ends before y is 0
more : (c : In-loop-n) → 1 ≤ c.loop-n.y
more c = let l = c.loop-n in not_yet c.args.b l.n l.y c.requires.0 (omega arith)
    l.invariant.0

pub overflow_sub-y : goal.overflow_sub-y
overflow_sub-y c =
    more (goal.at.overflow_sub-y c).In-loop-n

pub loop-n-smaller : goal.loop-n-smaller
loop-n-smaller c =
    omega (arith, more (goal.at.loop-n-smaller c).In-loop-n)

pub loop-n-preserved : goal.loop-n-preserved
loop-n-preserved c =
    let l = c.loop-n in (step l.n l.y (more (goal.at.loop-n-preserved c).In-loop-n) ∙ l.invariant.0, omega arith, omega arith)

pub returns : goal.returns
returns c =
    let l = c.loop-n in
    subnormal_is c.args.b l.n l.y c.requires.1 l.invariant.0 (omega arith) l.invariant.1 l.invariant.2
