-- `middle` meets its contract, step by step as its definition. Assumes nothing.
use Rattle.std.proofs.Common.{refl}
use Rattle.rj_term.specs.Term.{rj_middle}
use Rattle.rj_term.proofs.term.middle.Goals as goal

pub returns : goal.returns
unfolding rj_middle
returns c =
    refl
