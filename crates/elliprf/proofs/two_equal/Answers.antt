-- `two_equal` meets its contract: it is RC's answer. Assumes nothing.
use Rattle.elliprf.specs.Rf.{rf_two}
use Rattle.elliprf.proofs.two_equal.Goals as goal

pub returns : goal.returns
unfolding rf_two
returns c =
    c.elliprc_unchecked.ensures
