-- `rd_upward` meets its contract, step by step as its definition. Assumes nothing.
use mathlib.Core.Path.{sym}
use Rattle.profile.specs.Profile.{rd_upward}
use Rattle.profile.proofs.rd_upward.Goals as goal

pub returns : goal.returns
unfolding rd_upward
returns c =
    rw (sym c.rise_xy-t.ensures) c.elliprd.ensures
