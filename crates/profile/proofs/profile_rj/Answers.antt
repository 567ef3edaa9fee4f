-- `profile_rj` meets its contract, step by step as its definition. Assumes nothing.
use mathlib.Core.Path.{sym}
use Rattle.profile.specs.Profile.{profile_rj}
use Rattle.profile.proofs.profile_rj.Goals as goal

pub returns : goal.returns
unfolding profile_rj
returns c =
    rw (
      sym c.plus_zero.ensures,
      sym c.plus_zero-2.ensures,
      sym c.plus_zero-3.ensures,
      sym c.plus_zero-4.ensures,
    ) c.rj_plain.ensures
