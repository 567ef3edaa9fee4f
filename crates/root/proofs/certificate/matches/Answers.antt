-- `root::certificate::matches` meets its contract, by `Upper`. Assumes nothing.
use Rattle.std.proofs.Common.{arith}
use Rattle.root.proofs.Upper.{lower_least, matches_is}
use Rattle.root.proofs.certificate.matches.Goals as goal

pub held-requires : goal.held-requires
held-requires c =
    (lower_least _ _ (omega arith), omega arith)

pub returns : goal.returns
returns c h =
    matches_is c.args.b c.args.s c.requires (omega arith) (c.held.ensures h)
