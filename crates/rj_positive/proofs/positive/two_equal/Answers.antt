-- `two_equal` meets its contract, step by step as its definition: two ways of RC add up plainly. Assumes nothing.
use mathlib.Core.Path.{sym}
use Rattle.elliprc.specs.Few.{rc_ways}
use Rattle.rj_positive.specs.Positive.{rj_two}
use Rattle.rj_positive.proofs.positive.two_equal.Goals as goal

pub returns : goal.returns
unfolding rj_two
returns c =
    let a = c.args in
    rw (
      sym (rc_ways a.x a.y a.x a.p),
      sym c.elliprc_unchecked-first.ensures,
      sym c.elliprc_unchecked-second.ensures,
      sym c.both_ways-way.ensures,
      sym c.carried.ensures,
    )
