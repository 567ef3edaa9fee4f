-- `elliprj_negative` meets its contract, step by step as its definition. Assumes nothing.
use Rattle.elliprj.specs.Rj.{rj_of_negative}
use Rattle.elliprj.proofs.elliprj_negative.Goals as goal

pub returns : goal.returns
unfolding rj_of_negative
returns c =
    c.signed.ensures
