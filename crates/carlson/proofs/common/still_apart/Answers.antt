-- `still_apart` meets its contract, step by step as its definition. Assumes nothing.
use Rattle.std.proofs.Common.{sym}
use Rattle.carlson.specs.Common.{apart}
use Rattle.carlson.proofs.common.still_apart.Goals as goal

pub returns : goal.returns
unfolding apart
returns c =
    rw (sym c.abs.ensures, sym c.abs-2.ensures)
