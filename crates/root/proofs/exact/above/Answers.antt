-- `root::exact::above` meets its contract, by `Halves`. Assumes nothing.
use Rattle.std.proofs.Common.{◌/◌, ◌%◌, ◌^◌, arith}
use Rattle.root.proofs.Halves.{by_halves}
use Rattle.root.proofs.exact.above.Goals as goal

pub returns : goal.returns
returns c =
    let k = c.args.c in by_halves c.args.n (k / 2 ^ 26) (k % 2 ^ 26) k (omega arith)
