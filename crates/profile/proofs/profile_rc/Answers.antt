-- `profile_rc` meets its contract, step by step as its definition. Assumes nothing.
use mathlib.Core.Path.{sym}
use Rattle.profile.specs.Profile.{profile_rc}
use Rattle.profile.proofs.profile_rc.Goals as goal

pub returns : goal.returns
unfolding profile_rc
returns c =
    rw (
      sym c.plus_zero.ensures,
      sym c.plus_zero-2.ensures,
    ) c.rc_plain.ensures
