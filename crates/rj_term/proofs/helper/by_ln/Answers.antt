-- `by_ln` meets its contract, step by step as its definition. Assumes nothing.
use Rattle.rj_term.specs.Helper.{by_ln1p}
use Rattle.rj_term.proofs.helper.by_ln.Goals as goal

pub returns : goal.returns
unfolding by_ln1p
returns c =
    cc
