-- `normal` meets its contract, by `Scale`. Assumes nothing.
use Rattle.std.proofs.Common.{rules}
use Rattle.fused.proofs.Scale.{scaled_high}
use Rattle.fused.proofs.parts.normal.Goals as goal

pub returns : goal.returns
returns c =
    scaled_high c.args.b c.requires.0 c.requires.1
