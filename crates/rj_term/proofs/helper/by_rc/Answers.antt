-- `by_rc` meets its contract, step by step as its definition. Assumes nothing.
use Rattle.std.proofs.Common.{sym}
use Rattle.rj_term.specs.Helper.{by_rc1p}
use Rattle.rj_term.proofs.helper.by_rc.Goals as goal

pub returns : goal.returns
unfolding by_rc1p
returns c =
    rw (
      sym c.elliprc_unchecked-rc.ensures,
      sym c.sqrt.ensures,
    ) c.carried.ensures
