-- `rj_upward` meets its contract, step by step as its definition. Assumes nothing.
use mathlib.Core.Path.{sym}
use Rattle.profile.specs.Profile.{rj_upward}
use Rattle.profile.proofs.rj_upward.Goals as goal

pub returns : goal.returns
unfolding rj_upward
returns c =
    rw (sym c.rising-t.ensures) c.elliprj_positive.ensures
