-- `two_equal` meets its contract, step by step as its definition. Assumes nothing.
use mathlib.Core.Path.{sym}
use Rattle.elliprg.specs.Rg.{rg_two}
use Rattle.elliprg.proofs.two_equal.Goals as goal

pub returns : goal.returns
unfolding rg_two
returns c =
    rw (
      sym c.elliprc_unchecked-rc.ensures,
      sym c.sqrt.ensures,
      sym c.carried.ensures,
    )
