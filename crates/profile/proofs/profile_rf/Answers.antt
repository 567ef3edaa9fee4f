-- `profile_rf` meets its contract, step by step as its definition. Assumes nothing.
use mathlib.Core.Path.{sym}
use Rattle.profile.specs.Profile.{profile_rf}
use Rattle.profile.proofs.profile_rf.Goals as goal

pub returns : goal.returns
unfolding profile_rf
returns c =
    rw (
      sym c.plus_zero.ensures,
      sym c.plus_zero-2.ensures,
      sym c.plus_zero-3.ensures,
    ) c.rf_plain.ensures
