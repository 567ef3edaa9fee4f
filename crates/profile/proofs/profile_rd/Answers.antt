-- `profile_rd` meets its contract, step by step as its definition. Assumes nothing.
use mathlib.Core.Path.{sym}
use Rattle.profile.specs.Profile.{profile_rd}
use Rattle.profile.proofs.profile_rd.Goals as goal

pub returns : goal.returns
unfolding profile_rd
returns c =
    rw (
      sym c.plus_zero.ensures,
      sym c.plus_zero-2.ensures,
      sym c.plus_zero-3.ensures,
    ) c.rd_plain.ensures
