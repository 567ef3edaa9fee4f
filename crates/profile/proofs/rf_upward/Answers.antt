-- `rf_upward` meets its contract, step by step as its definition. Assumes nothing.
use mathlib.Core.Path.{sym}
use Rattle.profile.specs.Profile.{rf_upward}
use Rattle.profile.proofs.rf_upward.Goals as goal

pub returns : goal.returns
unfolding rf_upward
returns c =
    rw (sym c.rising-t.ensures) c.elliprf.ensures
