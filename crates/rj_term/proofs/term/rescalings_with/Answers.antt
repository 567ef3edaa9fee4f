-- `rescalings_with` meets its contract: a sum that wraps is one modulo 2 ^ 32. Assumes nothing.
use Rattle.rj_term.specs.Term.{rj_rescalings}
use Rattle.rj_term.proofs.term.rescalings_with.Goals as goal

pub returns : goal.returns
unfolding rj_rescalings
returns c =
    c.wrapping_add_u32.ensures.value
