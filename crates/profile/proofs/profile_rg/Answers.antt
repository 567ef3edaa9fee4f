-- `profile_rg` meets its contract, step by step as its definition. Assumes nothing.
use mathlib.Core.Path.{sym}
use Rattle.profile.specs.Profile.{profile_rg}
use Rattle.profile.proofs.profile_rg.Goals as goal

pub returns : goal.returns
unfolding profile_rg
returns c =
    rw (
      sym c.plus_zero.ensures,
      sym c.plus_zero-2.ensures,
      sym c.plus_zero-3.ensures,
    ) c.rg_plain.ensures
