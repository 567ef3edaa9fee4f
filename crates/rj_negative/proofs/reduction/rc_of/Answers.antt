-- `rc_of` meets its contract, step by step as its definition. Assumes nothing.
use Rattle.rj_negative.specs.Reduction.{reduced_rc}
use Rattle.rj_negative.proofs.reduction.rc_of.Goals as goal

pub returns : goal.returns
unfolding reduced_rc
returns c =
    c.elliprc_unchecked.ensures
