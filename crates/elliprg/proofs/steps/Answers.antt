-- `steps` meets its contract, step by step as its definition. Assumes nothing.
use Rattle.elliprg.specs.Rg.{rg_steps}
use Rattle.elliprg.proofs.steps.Goals as goal

pub returns : goal.returns
unfolding rg_steps
returns c =
    cc
