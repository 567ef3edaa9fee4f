-- `root::parts::normal` meets its contract, by `Scale`. Assumes nothing.
use Rattle.std.proofs.Common.{arith}
use Rattle.root.proofs.Scale.{normal_odd, normal_even}
use Rattle.root.proofs.parts.normal.Goals as goal

pub returns-then-b-eq1 : goal.returns-then-b-eq1
returns-then-b-eq1 c l =
    normal_odd c.args.b l (omega arith)

pub returns : goal.returns
returns c l =
    normal_even c.args.b l (λ o. omega arith)
