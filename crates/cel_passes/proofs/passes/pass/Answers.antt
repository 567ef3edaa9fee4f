-- `pass` meets its contract, step by step as its definition. Assumes nothing.
use Rattle.cel_passes.specs.Passes.{cel_pass}
use Rattle.cel_passes.proofs.passes.pass.Goals as goal

pub returns : goal.returns
unfolding cel_pass
returns c =
    c.moved.ensures
