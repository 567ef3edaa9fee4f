-- `by_atan` meets its contract, step by step as its definition. Assumes nothing.
use Rattle.rj_term.specs.Helper.{by_atan1p}
use Rattle.rj_term.proofs.helper.by_atan.Goals as goal

pub returns : goal.returns
unfolding by_atan1p
returns c =
    cc
