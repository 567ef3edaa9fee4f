-- `count` meets its contract, line by line. Assumes nothing.
use Rattle.std.proofs.Common.{ne_eqb}
use Rattle.bench_write.specs.Pieces.{count_at}
use Rattle.bench_write.proofs.tallies.count.Goals as goal

pub returns-in-0 : goal.returns-in-0
unfolding count_at
returns-in-0 c =
    rw c.in-0.is c.knees.ensures

pub returns-in-1 : goal.returns-in-1
unfolding count_at
returns-in-1 c =
    rw c.in-1.is

pub returns-in-2 : goal.returns-in-2
unfolding count_at
returns-in-2 c =
    rw c.in-2.is

pub returns-in-3 : goal.returns-in-3
unfolding count_at
returns-in-3 c =
    rw c.in-3.is

pub returns-in_default : goal.returns-in_default
unfolding count_at
returns-in_default c =
    let r = c.in_default.in_default-own.rest in
    rw (
      ne_eqb _ _ r.0.0.0.1,
      ne_eqb _ _ r.0.0.1,
      ne_eqb _ _ r.0.1,
      ne_eqb _ _ r.1,
    )
